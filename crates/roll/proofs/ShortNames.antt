-- No name that a roll gives has more than 20 bytes.
use Rattle.std.proofs.Common.{◌≡◌, ℕ, zero, suc, ◌+◌, ◌≤◌, Bool, true, false, cond, ◌&&◌, eqb, leb, List, [], ◌∷◌, length, drop, Some, None, Ok, Err, Option, Result, refl, ◌∙◌, subst, arith, length-drop}
use Rattle.std.proofs.lemmas.Bool.{and_parts, leb-true}
use Rattle.std.specs.List.{AllByRecursion}
use Rattle.sheet.specs.declared.call.Call.{Call}
use Rattle.sheet.specs.declared.call.Call.TheVariants.{Enter, Change, Withdraw, Pace, CallUp, StandDown, SendAway, Open, Keep, Back, Order, Through, RangeOf, Spans}
use Rattle.sheet.specs.Questions.{answered}
use Rattle.field.specs.Refusals.{first_no}
use Rattle.field.proofs.InARow.{all_yes}
use Rattle.roll.specs.Faults.{Named}
use Rattle.roll.specs.Records.{Said, enter_kind, pace_kind, change_kind, withdraw_kind, call_kind, stand_down_kind, has_length, says, size, kind, body, questions, parsed}
use Rattle.roll.specs.Meaning.{Placed, Meaning, continued, reading, begun, read_from, meaning}
use Rattle.roll.specs.Meaning as roll
use Rattle.roll.specs.Names.{renamed, last_name, only_whole, name_of}

abbrev Short : Said → Type 0
Short s = length s.name ≤ 20

either : (b : Bool) (x y : Said) → (b ≡ true → Short x) → Short y → Short (cond b x y)
either true x y f g = f refl
either false x y f g = g

none_short : 0 ≤ 20
none_short = omega arith

-- an enter's name is what 30 bytes leave after 10
name_short : (bs : List ℕ) (n : ℕ) → length bs ≡ n → (leb 10 n && leb n 30) ≡ true → length (drop 10 bs) ≤ 20
name_short bs n e h =
    let b = leb-true n 30 (and_parts (leb 10 n) (leb n 30) h).1 in
    let l = length-drop 10 bs in
    omega arith

says_short : (k : ℕ) (bs : List ℕ) → has_length k (length bs) ≡ true → Short (says k bs)
says_short k bs h =
    either (eqb k pace_kind) _ _ (λ _. none_short)
    (either (eqb k enter_kind) _ _ (λ e. name_short bs (length bs) refl (subst (λ (b : Bool). cond b (leb 10 (length bs) && leb (length bs) 30) (eqb (length bs) (cond (eqb k change_kind) 10 (cond (eqb k call_kind) 6 2))) ≡ true) e h))
    (either (eqb k change_kind) _ _ (λ _. none_short)
    (either (eqb k withdraw_kind) _ _ (λ _. none_short)
    (either (eqb k call_kind) _ _ (λ _. none_short)
    (either (eqb k stand_down_kind) _ _ (λ _. none_short) none_short)))))

answered_yes : (o : Option ℕ) (x y : Said) → answered o x ≡ Ok y → (o ≡ None) × (x ≡ y)
answered_yes None x y e = (refl, cc)
answered_yes (Some n) x y e = let z : ◌≡◌ {A = ℕ} 0 1 = cc in absurd (omega arith)

parsed_short : (bs : List ℕ) (r : Result Said ℕ) → parsed bs ≡ r → (s : Said) → r ≡ Ok s → Short s
parsed_short bs r e s i =
    let p = answered_yes (first_no (questions bs)) (says (kind bs) (body bs)) s (e ∙ i) in
    let y = all_yes (questions bs) p.0 in
    subst Short p.1 (says_short (kind bs) (body bs) y.1.1.0)

abbrev Shorts : Meaning → Type 0
Shorts m = AllByRecursion (λ p. Short p.said) m.records

continued_short : (r : Result Said ℕ) (turn place : ℕ) (rest : Meaning) → ((s : Said) → r ≡ Ok s → Short s) → Shorts rest → Shorts (continued r turn place rest)
continued_short (Ok s) turn place rest f g = (f s refl, g)
continued_short (Err n) turn place rest f g = tt

reading_short : (most turn place : ℕ) (bs : List ℕ) → Shorts (reading most turn place bs)
unfolding reading
reading_short zero turn place bs = tt
reading_short (suc most) turn place [] = tt
reading_short (suc most) turn place (b ∷ bs) = continued_short (parsed (b ∷ bs)) turn place _ (parsed_short (b ∷ bs) _ refl) (reading_short most (turn + 1) (place + size (b ∷ bs)) (drop (size (b ∷ bs)) (b ∷ bs)))

meaning_short : (bs : List ℕ) → Shorts (meaning bs)
meaning_short bs = by (first_no (roll.questions bs))
  where
    by : (o : Option ℕ) → Shorts (begun o (read_from 1 5 (drop 5 bs)))
    by None = reading_short (length (drop 5 bs)) 1 5 (drop 5 bs)
    by (Some n) = tt

renamed_short : (g : ℕ) (given : List ℕ) (call : Call) (name : List ℕ) → length given ≤ 20 → length name ≤ 20 → length (renamed g given call name) ≤ 20
renamed_short g given (Enter n e l) name h k = by (eqb n g)
  where
    by : (b : Bool) → length (cond b given name) ≤ 20
    by true = h
    by false = k
renamed_short g given (Change n e l) name h k = k
renamed_short g given (Withdraw n) name h k = k
renamed_short g given (Pace p) name h k = k
renamed_short g given (CallUp n t) name h k = k
renamed_short g given (StandDown n) name h k = k
renamed_short g given (SendAway n) name h k = k
renamed_short g given Open name h k = k
renamed_short g given (Keep s) name h k = k
renamed_short g given (Back s) name h k = k
renamed_short g given Order name h k = k
renamed_short g given (Through n t) name h k = k
renamed_short g given (RangeOf n) name h k = k
renamed_short g given Spans name h k = k

last_short : (g : ℕ) (name : List ℕ) (ps : List Placed) → length name ≤ 20 → AllByRecursion (λ p. Short p.said) ps → length (last_name g name ps) ≤ 20
last_short g name [] h k = h
last_short g name (p ∷ ps) h k = last_short g (renamed g p.said.name p.said.call name) ps (renamed_short g p.said.name p.said.call name k.0 h) k.1

pub name_of_short : (bs : List ℕ) (g : ℕ) → length (name_of bs g) ≤ 20
name_of_short bs g = by (meaning bs).fault
  where
    by : (f : Option Named) → length (only_whole f (last_name g [] (meaning bs).records)) ≤ 20
    by None = last_short g [] (meaning bs).records none_short (meaning_short bs)
    by (Some f) = none_short
