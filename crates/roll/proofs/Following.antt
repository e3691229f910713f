-- Reading on: what comes from a place is the record there, and what comes after it.
use Rattle.std.proofs.Common.{◌≡◌, ℕ, zero, suc, ◌+◌, ◌-◌, ◌<◌, ◌≤◌, Bool, true, false, cond, leb, List, [], ◌∷◌, length, get_or, drop, Some, None, Ok, Err, Result, sym, refl, ap, ◌∙◌, arith, length-drop}
use Rattle.std.proofs.lemmas.List.{drop-drop, get_or-drop}
use Rattle.std.proofs.lemmas.Bool.{and_parts, leb-true}
use Rattle.field.specs.Refusals.{first_no}
use Rattle.sheet.specs.Questions.{answered}
use Rattle.roll.specs.Faults.{flawed}
use Rattle.roll.specs.Records.{Said, says, size, kind, body, body_questions, whole, parsed}
use Rattle.roll.specs.Meaning.{over, followed, continued, reading, read_from}

-- it does not matter how many records are allowed, if they are enough
enough : (m n turn place : ℕ) (bs : List ℕ) → length bs ≤ m → length bs ≤ n → reading m turn place bs ≡ reading n turn place bs
unfolding reading
enough zero zero turn place bs h k = refl
enough zero (suc n) turn place [] h k = refl
enough zero (suc n) turn place (b ∷ bs) h k = absurd (omega arith)
enough (suc m) zero turn place [] h k = refl
enough (suc m) zero turn place (b ∷ bs) h k = absurd (omega arith)
enough (suc m) (suc n) turn place [] h k = refl
enough (suc m) (suc n) turn place (b ∷ bs) h k =
    let s = size (b ∷ bs) in
    let l = length-drop s (b ∷ bs) in
    ap (continued (parsed (b ∷ bs)) turn place) (enough m n (turn + 1) (place + s) (drop s (b ∷ bs)) (omega arith) (omega arith))

pub read_none : (turn place : ℕ) (bs : List ℕ) → bs ≡ [] → read_from turn place bs ≡ over None
unfolding reading
read_none turn place bs e = ap (read_from turn place) e

pub read_some : (turn place : ℕ) (bs : List ℕ) → 0 < length bs → read_from turn place bs ≡ continued (parsed bs) turn place (read_from (turn + 1) (place + size bs) (drop (size bs) bs))
unfolding reading
read_some turn place [] h = absurd (omega arith)
read_some turn place (b ∷ bs) h =
    let s = size (b ∷ bs) in
    let l = length-drop s (b ∷ bs) in
    ap (continued (parsed (b ∷ bs)) turn place) (enough (length bs) (length (drop s (b ∷ bs))) (turn + 1) (place + s) (drop s (b ∷ bs)) (omega arith) (omega arith))

-- what is read is whole
pub ok_whole : (bs : List ℕ) (s : Said) → Ok s ≡ parsed bs → whole bs ≡ true
ok_whole bs s e = by (whole bs) refl
  where
    by : (b : Bool) → whole bs ≡ b → whole bs ≡ true
    by true w = w
    by false w =
        let f : parsed bs ≡ Err 24 = ap (λ (b : Bool). answered (cond b (first_no (body_questions (kind bs) (body bs))) (Some 24)) (says (kind bs) (body bs))) w in
        let z : ◌≡◌ {A = ℕ} 0 1 = cc in
        absurd (omega arith)

-- a record that is read takes no more bytes than there are
pub size_fits : (bs : List ℕ) (s : Said) → Ok s ≡ parsed bs → size bs ≤ length bs
size_fits bs s e =
    let w = and_parts (leb 2 (length bs)) (leb (get_or bs 1 0) (length bs - 2)) (ok_whole bs s e) in
    let a = leb-true 2 (length bs) w.0 in
    let b = leb-true (get_or bs 1 0) (length bs - 2) w.1 in
    omega arith

module _ (roll : List ℕ) (turn place : ℕ) (inside : place < length roll) where
  abbrev rest : List ℕ
  rest = drop place roll

  some : 0 < length rest
  some = let l = length-drop place roll in omega arith

  size_here : (n : ℕ) → n ≡ get_or roll (place + 1) 0 → place + size rest ≡ place + 2 + n
  size_here n e = let g = get_or-drop place roll 1 0 in omega arith

  -- a record that is read at its place ends within the roll
  pub fits_here : (n : ℕ) (s : Said) → n ≡ get_or roll (place + 1) 0 → Ok s ≡ parsed rest → place + 2 + n ≤ length roll
  fits_here n s e p =
      let f = size_fits rest s p in
      let l = length-drop place roll in
      let z = size_here n e in
      omega arith

  pub read_here : (n : ℕ) (s : Said) → n ≡ get_or roll (place + 1) 0 → Ok s ≡ parsed rest → read_from turn place rest ≡ followed (record { said = s; turn = turn; place = place }) (read_from (turn + 1) (place + 2 + n) (drop (place + 2 + n) roll))
  read_here n s e p =
      read_some turn place rest some
      ∙ ap (λ (r : Result Said ℕ). continued r turn place (read_from (turn + 1) (place + size rest) (drop (size rest) rest))) (sym p)
      ∙ ap (λ (bs : List ℕ). followed (record { said = s; turn = turn; place = place }) (read_from (turn + 1) (place + size rest) bs)) (drop-drop (size rest) place roll)
      ∙ ap (λ (m : ℕ). followed (record { said = s; turn = turn; place = place }) (read_from (turn + 1) m (drop m roll))) (size_here n e)

  pub stop_here : (n : ℕ) → Err n ≡ parsed rest → read_from turn place rest ≡ over (Some (flawed n turn place))
  stop_here n e = read_some turn place rest some ∙ ap (λ (r : Result Said ℕ). continued r turn place (read_from (turn + 1) (place + size rest) (drop (size rest) rest))) (sym e)
