-- Where a number stands among rows in ascending number.
use Rattle.std.proofs.Common.{◌≡◌, ℕ, suc, ◌+◌, ◌<◌, Bool, true, false, cond, eqb, ltb, List, [], ◌∷◌, ◌++◌, map, length, get_or, set, refl, ap, ◌∙◌, arith}
use Rattle.std.proofs.lemmas.List.{take_all, drop_all}
use Rattle.std.proofs.lemmas.Bool.{and_parts, ltb-true, le-ltb, ne_eqb, eq-eqb}
use Rattle.std.specs.List.{insert, list_all, AllByRecursion}
use Rattle.sheet.specs.declared.row.Row.{Row}
use Rattle.sheet.specs.Standings.{nobody}
use Rattle.sheet.specs.Content.{place, place_for, rising, numbers_of}
use Rattle.roll.proofs.Loosening.{as_waiting}

-- all have a lower number
abbrev pub Below : ℕ → List Row → Type 0
Below g rs = AllByRecursion (λ r. r.number < g) rs

passes_middle : (t : ℕ → Bool) (ds : List Row) (r : Row) (ts : List Row) → list_all t (numbers_of (ds ++ r ∷ ts)) ≡ true → t r.number ≡ true
passes_middle t [] r ts h = (and_parts (t r.number) (list_all t (numbers_of ts)) h).0
passes_middle t (d ∷ ds) r ts h = passes_middle t ds r ts (and_parts (t d.number) (list_all t (numbers_of (ds ++ r ∷ ts))) h).1

pub before_middle : (ds : List Row) (r : Row) (ts : List Row) → rising (numbers_of (ds ++ r ∷ ts)) ≡ true → Below r.number ds
before_middle [] r ts h = tt
before_middle (d ∷ ds) r ts h =
    let p = and_parts (list_all (ltb d.number) (numbers_of (ds ++ r ∷ ts))) (rising (numbers_of (ds ++ r ∷ ts))) h in
    (ltb-true d.number r.number (passes_middle (ltb d.number) ds r ts p.0), before_middle ds r ts p.1)

pub below_waiting : (g : ℕ) (rs : List Row) → Below g rs → Below g (map as_waiting rs)
below_waiting g [] h = tt
below_waiting g (r ∷ rs) h = (h.0, below_waiting g rs h.1)

-- behind lower numbers
pub place_behind : (g : ℕ) (ds us : List Row) → Below g ds → place g (ds ++ us) ≡ length ds + place g us
place_behind g [] us h = omega arith
place_behind g (d ∷ ds) us h =
    let m = place_behind g ds us h.1 in
    let f : eqb d.number g ≡ false = ne_eqb d.number g (λ e. let z = h.0 in omega arith) in
    ap (λ (b : Bool). cond b 0 (suc (place g (ds ++ us)))) f ∙ omega arith

pub place_for_last : (g : ℕ) (ds : List Row) → Below g ds → place_for g ds ≡ length ds
place_for_last g [] h = refl
place_for_last g (d ∷ ds) h =
    let f : ltb g d.number ≡ false = le-ltb g d.number (let z = h.0 in omega arith) in
    ap (λ (b : Bool). cond b 0 (suc (place_for g ds))) f ∙ ap suc (place_for_last g ds h.1)

pub place_at : (g : ℕ) (ds : List Row) (r : Row) (us : List Row) → Below g ds → r.number ≡ g → place g (ds ++ r ∷ us) ≡ length ds
place_at g ds r us h e =
    let z = place_behind g ds (r ∷ us) h in
    let f : place g (r ∷ us) ≡ 0 = ap (λ (b : Bool). cond b 0 (suc (place g us))) (eq-eqb r.number g e) in
    omega arith

-- a list behind others, by place
pub get_behind : (ds : List Row) (r : Row) (us : List Row) → get_or (ds ++ r ∷ us) (length ds) nobody ≡ r
get_behind [] r us = refl
get_behind (d ∷ ds) r us = get_behind ds r us

pub set_behind : (ds : List Row) (r s : Row) (us : List Row) → set (ds ++ r ∷ us) (length ds) s ≡ ds ++ s ∷ us
set_behind [] r s us = refl
set_behind (d ∷ ds) r s us = ap (λ (xs : List Row). d ∷ xs) (set_behind ds r s us)

pub inserted_last : (ds : List Row) (r : Row) (i : ℕ) → i ≡ length ds → insert ds i r ≡ ds ++ r ∷ []
inserted_last ds r i e =
    let a = take_all i ds (omega arith) in
    let c = drop_all i ds (omega arith) in
    (λ j. a j ++ r ∷ c j)
