-- A record that is whole is read by its kind and body.
use Rattle.std.proofs.Common.{◌≡◌, ℕ, ◌-◌, ◌≤◌, Bool, true, cond, leb, List, length, get_or, take, drop, Some, Result, sym, ap, ◌∙◌, arith}
use Rattle.std.proofs.lemmas.List.{take_rest}
use Rattle.std.proofs.lemmas.Bool.{and_from, le-leb}
use Rattle.field.specs.Refusals.{first_no}
use Rattle.sheet.specs.Questions.{answered}
use Rattle.roll.specs.Records.{Said, says, body_questions, body_read, whole, body, kind, parsed}

-- a body as the code cuts it out
part : (bs : List ℕ) (m : ℕ) → take (m - 0) (take (length bs - 2) (drop 2 bs)) ≡ take m (drop 2 bs)
part bs m =
    let z : m - 0 ≡ m = omega arith in
    let r = take_rest bs 2 in
    cc

pub is_whole : (bs : List ℕ) → 2 ≤ length bs → get_or bs 1 0 ≤ length bs - 2 → whole bs ≡ true
is_whole bs h k = and_from (leb 2 (length bs)) (leb (get_or bs 1 0) (length bs - 2)) (le-leb 2 (length bs) h) (le-leb (get_or bs 1 0) (length bs - 2) k)

pub parsed_whole : (bs : List ℕ) → whole bs ≡ true → parsed bs ≡ body_read (kind bs) (body bs)
parsed_whole bs w = ap (λ (b : Bool). answered (cond b (first_no (body_questions (kind bs) (body bs))) (Some 24)) (says (kind bs) (body bs))) w

pub read_whole : (bs : List ℕ) (n : ℕ) (x : Result Said ℕ) → 2 ≤ length bs → n ≤ length bs - 2 → n ≡ get_or bs 1 0 → x ≡ body_read (kind bs) (take (n - 0) (take (length bs - 2) (drop 2 bs))) → x ≡ parsed bs
read_whole bs n x h k i e =
    let b : get_or bs 1 0 ≤ length bs - 2 = omega arith in
    e ∙ ap (body_read (kind bs)) (part bs n ∙ ap (λ (m : ℕ). take m (drop 2 bs)) i) ∙ sym (parsed_whole bs (is_whole bs h b))
