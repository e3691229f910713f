-- Bytes that are played to their end.
use Rattle.std.proofs.Common.{◌≡◌, ℕ, ◌+◌, ◌<◌, List, [], ◌++◌, length, drop, Some, None, Option, Result, refl, ap, ◌∙◌, arith, length-append}
use Rattle.std.proofs.lemmas.List.{drop_at}
use Rattle.sheet.specs.Trials.{Held, decision}
use Rattle.roll.specs.Faults.{refused}
use Rattle.roll.specs.Records.{Said, size}
use Rattle.roll.specs.Meaning.{Placed, Meaning, followed, continued, reading, read_from}
use Rattle.roll.specs.Playing.{by_no, changed, playing}
use Rattle.roll.proofs.Following.{read_some}
use Rattle.roll.proofs.Encoding.{Encodes}

-- played on what is held, from whatever turn and place, these bytes meet no fault and end so
abbrev pub Ends : Held → List ℕ → Held → Type 0
Ends h bs k = (turn place : ℕ) → playing h (read_from turn place bs).records (read_from turn place bs).fault ≡ record { held = k; fault = None }

pub ends : (h : Held) → Ends h [] h
unfolding reading playing
ends h turn place = refl

-- a record whose call is made, and then the rest
pub ends_step : (bs tail : List ℕ) (s : Said) (h k : Held) → Encodes bs s → decision h s.call 0 ≡ None → Ends (changed h s.call) tail k → Ends h (bs ++ tail) k
unfolding playing
ends_step bs tail s h k e d more turn place =
    let l = length-append bs tail in
    let some : 0 < length (bs ++ tail) = omega (arith, e.some) in
    let p : Placed = record { said = s; turn = turn; place = place } in
    let next = read_from (turn + 1) (place + length bs) tail in
    let cut = drop_at bs tail (length bs) refl in
    let first : read_from turn place (bs ++ tail) ≡ followed p next =
    read_some turn place (bs ++ tail) some
    ∙ ap (λ (r : Result Said ℕ). continued r turn place (read_from (turn + 1) (place + size (bs ++ tail)) (drop (size (bs ++ tail)) (bs ++ tail)))) (e.reads tail)
    ∙ ap (λ (n : ℕ). followed p (read_from (turn + 1) (place + n) (drop n (bs ++ tail)))) (e.long tail)
    ∙ ap (λ (cs : List ℕ). followed p (read_from (turn + 1) (place + length bs) cs)) cut
    in
    ap (λ (m : Meaning). playing h m.records m.fault) first
    ∙ ap (λ (o : Option ℕ). by_no o (λ n. record { held = h; fault = Some (refused n turn place) }) (playing (changed h s.call) next.records next.fault)) d
    ∙ more (turn + 1) (place + length bs)
