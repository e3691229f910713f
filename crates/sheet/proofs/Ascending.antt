-- Rows in ascending number: a new one at its place, one taken out, and steps that keep the number.
use Rattle.std.proofs.Common.{◌≡◌, ℕ, zero, suc, ◌<◌, Bool, true, false, cond, ◌&&◌, eqb, ltb, List, [], ◌∷◌, map, length, get_or, set, sym, refl, ap, ◌∙◌, subst, arith}
use lib.ListN.{get_or-map}
use Rattle.std.specs.List.{insert, remove, list_all}
use Rattle.std.proofs.lemmas.List.{map-set, set-get_or}
use Rattle.std.proofs.lemmas.Bool.{and_parts, and_from, ltb-true, ltb-false, lt-ltb, le-ltb, eqb-false}
use Rattle.sheet.specs.declared.row.Row.{Row}
use Rattle.sheet.specs.declared.row.Standing.{Standing}
use Rattle.sheet.specs.declared.row.Standing.TheVariants.{Waiting, Called, Away}
use Rattle.sheet.specs.declared.row.Step.{Step}
use Rattle.sheet.specs.declared.row.Step.TheVariants as step
use Rattle.sheet.specs.Standings.{nobody, stepped, step_by}
use Rattle.sheet.specs.Calls.{made_or}
use Rattle.sheet.specs.Content.{place, on, place_for, joined, rising, numbers_of}
use Rattle.sheet.proofs.Passing.{pass_inserted, pass_removed, pass_weaker}

-- a number that is on no row is not the first row's, nor on a later one
other : (g : ℕ) (s : Row) (rs : List Row) → on g (s ∷ rs) ≡ false → (s.number ≡ g → ⊥) × (on g rs ≡ false)
other g s rs h = go (eqb s.number g) refl h
  where
    go : (b : Bool) → eqb s.number g ≡ b → ltb (cond b 0 (suc (place g rs))) (suc (length rs)) ≡ false → (s.number ≡ g → ⊥) × (on g rs ≡ false)
    go true e k = absurd (let z = ltb-false 0 (suc (length rs)) k in omega arith)
    go false e k = (eqb-false s.number g e, le-ltb (place g rs) (length rs) (let z = ltb-false (suc (place g rs)) (suc (length rs)) k in omega arith))

numbers_inserted : (rs : List Row) (i : ℕ) (r : Row) → numbers_of (insert rs i r) ≡ insert (numbers_of rs) i r.number
numbers_inserted [] zero r = refl
numbers_inserted [] (suc i) r = refl
numbers_inserted (s ∷ rs) zero r = refl
numbers_inserted (s ∷ rs) (suc i) r = ap (λ (ns : List ℕ). s.number ∷ ns) (numbers_inserted rs i r)

numbers_removed : (rs : List Row) (i : ℕ) → numbers_of (remove rs i) ≡ remove (numbers_of rs) i
numbers_removed [] zero = refl
numbers_removed [] (suc i) = refl
numbers_removed (s ∷ rs) zero = refl
numbers_removed (s ∷ rs) (suc i) = ap (λ (ns : List ℕ). s.number ∷ ns) (numbers_removed rs i)

pub joined_rising : (r : Row) (rs : List Row) → on r.number rs ≡ false → rising (numbers_of rs) ≡ true → rising (numbers_of (joined r rs)) ≡ true
joined_rising r [] n h = refl
joined_rising r (s ∷ rs) n h =
    let p = and_parts (list_all (ltb s.number) (numbers_of rs)) (rising (numbers_of rs)) h in
    go (ltb r.number s.number) refl p.0 p.1 (other r.number s rs n) (λ q. joined_rising r rs q p.1)
  where
    go : (b : Bool) → ltb r.number s.number ≡ b → list_all (ltb s.number) (numbers_of rs) ≡ true → rising (numbers_of rs) ≡ true → (s.number ≡ r.number → ⊥) × (on r.number rs ≡ false) → (on r.number rs ≡ false → rising (numbers_of (joined r rs)) ≡ true) → rising (numbers_of (insert (s ∷ rs) (cond b 0 (suc (place_for r.number rs))) r)) ≡ true
    go true e a c d ih =
        let k = ltb-true r.number s.number e in
        let more = pass_weaker (ltb s.number) (ltb r.number) (λ x j. lt-ltb r.number x (let z = ltb-true s.number x j in omega arith)) (numbers_of rs) a in
        and_from (ltb r.number s.number && list_all (ltb r.number) (numbers_of rs)) _ (and_from (ltb r.number s.number) _ e more) (and_from (list_all (ltb s.number) (numbers_of rs)) _ a c)
    go false e a c d ih =
        let k = ltb-false r.number s.number e in
        let ne = d.0 in
        let below : s.number < r.number = omega arith in
        let i = place_for r.number rs in
        let all = subst (λ (ns : List ℕ). list_all (ltb s.number) ns ≡ true) (sym (numbers_inserted rs i r)) (pass_inserted (ltb s.number) (numbers_of rs) i r.number a (lt-ltb s.number r.number below)) in
        and_from (list_all (ltb s.number) (numbers_of (joined r rs))) _ all (ih d.1)

rising_removed : (ns : List ℕ) (i : ℕ) → rising ns ≡ true → rising (remove ns i) ≡ true
rising_removed [] zero h = refl
rising_removed [] (suc i) h = refl
rising_removed (n ∷ ns) zero h = (and_parts (list_all (ltb n) ns) (rising ns) h).1
rising_removed (n ∷ ns) (suc i) h =
    let p = and_parts (list_all (ltb n) ns) (rising ns) h in
    and_from (list_all (ltb n) (remove ns i)) _ (pass_removed (ltb n) ns i p.0) (rising_removed ns i p.1)

pub removed_rising : (rs : List Row) (i : ℕ) → rising (numbers_of rs) ≡ true → rising (numbers_of (remove rs i)) ≡ true
removed_rising rs i h = ap rising (numbers_removed rs i) ∙ rising_removed (numbers_of rs) i h

-- another row with the same number leaves the numbers as they are
pub numbers_kept : (rs : List Row) (i : ℕ) (r : Row) → r.number ≡ (get_or rs i nobody).number → numbers_of (set rs i r) ≡ numbers_of rs
numbers_kept rs i r e =
    let f : Row → ℕ = λ (x : Row). x.number in
    map-set f rs i r ∙ ap (λ (n : ℕ). set (map f rs) i n) (e ∙ sym (get_or-map f rs i nobody)) ∙ set-get_or (map f rs) i 0

pub same_number : (r : Row) (s : Step) → (made_or r (stepped r s)).number ≡ r.number
same_number r s = go r.standing s
  where
    go : (t : Standing) (s : Step) → (made_or r (step_by t s r)).number ≡ r.number
    go Waiting (step.Change e l) = refl
    go Waiting step.Withdraw = refl
    go Waiting (step.CallUp t) = refl
    go Waiting step.StandDown = refl
    go Waiting step.SendAway = refl
    go (Called u) (step.Change e l) = refl
    go (Called u) step.Withdraw = refl
    go (Called u) (step.CallUp t) = refl
    go (Called u) step.StandDown = refl
    go (Called u) step.SendAway = refl
    go (Away u) (step.Change e l) = refl
    go (Away u) step.Withdraw = refl
    go (Away u) (step.CallUp t) = refl
    go (Away u) step.StandDown = refl
    go (Away u) step.SendAway = refl
