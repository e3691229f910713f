-- What is written of a sheet, played on a blank one, gives the sheet again. The groups enter in ascending number with
-- the windows that they were entered with, and are then called and sent away in the same order. Every sheet on the way
-- is looser than the last one, so none lacks an order of play.
use Rattle.std.proofs.Common.{◌≡◌, ℕ, ◌*◌, ◌<◌, ◌≤◌, Bool, true, not, ◌&&◌, leb, List, [], ◌∷◌, ◌++◌, map, length, get_or, drop, set, ℤ, pos, negsuc, ◌≤ℤ◌, is_ok, None, Option, sym, refl, ap, ◌∙◌, subst, append_assoc, arith, length-append}
use lib.Signed.{mag, le_z}
use Rattle.std.proofs.lemmas.List.{length-map, map-append}
use Rattle.std.proofs.lemmas.Int.{ints}
use Rattle.std.proofs.lemmas.Bool.{and_parts, and_from, leb-true, le-leb, lt-ltb, le-ltb}
use Rattle.std.specs.List.{flat_map, list_all}
use Rattle.field.specs.Refusals.{first_no}
use Rattle.field.proofs.InARow.{no_no}
use Rattle.theory.specs.Orders.{In}
use Rattle.theory.proofs.Closed.{leZ_true}
use Rattle.reckoning.specs.Questions.{in_time}
use Rattle.sheet.specs.declared.call.Call.TheVariants.{Enter, Pace, CallUp, SendAway}
use Rattle.sheet.specs.declared.row.Row.{Row}
use Rattle.sheet.specs.declared.row.Standing.{Standing}
use Rattle.sheet.specs.declared.row.Standing.TheVariants.{Waiting, Called, Away}
use Rattle.sheet.specs.declared.row.Step.{Step}
use Rattle.sheet.specs.declared.row.Step.TheVariants as step
use Rattle.sheet.specs.Standings.{counts, nobody, stepped, window_by}
use Rattle.sheet.specs.Sound.{numbered, within, kept_time, sound}
use Rattle.sheet.specs.Content.{Content, blank, on, place, row, joined, numbers_of, playable, rising}
use Rattle.sheet.specs.Calls.{made_or, step_of}
use Rattle.sheet.specs.Kept.{Kept, CanExist}
use Rattle.sheet.specs.Trials.{Held, asked, decision}
use Rattle.sheet.proofs.Playing.{plays, decided, none_play}
use Rattle.sheet.proofs.Soundness.{parts, between_in_time}
use Rattle.roll.specs.Meaning.{begun, read_from}
use Rattle.roll.specs.Meaning as roll
use Rattle.roll.specs.Playing.{playing}
use Rattle.roll.specs.Written.{entry, stand, standing_records, pace_record, call_record, away_record}
use Rattle.roll.specs.Written as written
use Rattle.roll.specs.RoundTrip.{outside_trial, GivesBack}
use Rattle.roll.proofs.Encoding.{pace_encodes, enter_encodes, call_encodes, away_encodes}
use Rattle.roll.proofs.Ending.{Ends, ends, ends_step}
use Rattle.roll.proofs.Loosening.{as_waiting, Eases, Looser, looser_play, looser_waiting, looser_front, looser_behind}
use Rattle.roll.proofs.Places.{Below, before_middle, below_waiting, place_behind, place_for_last, place_at, get_behind, set_behind, inserted_last}

-- ---- numbers and times fit their bytes

number_fits : (g : ℕ) → numbered g ≡ true → g < 65536
number_fits g h = let b = leb-true g 9999 (and_parts (leb 1 g) (leb g 9999) h).1 in omega arith

near_fits : (z : ℤ) → negsuc 86399 ≤ℤ z → z ≤ℤ pos 86400 → mag z < 2147483648
near_fits (pos n) a b = omega (arith, ints)
near_fits (negsuc n) a b = omega (arith, ints)

time_fits : (z : ℤ) → in_time z ≡ true → mag z < 2147483648
time_fits z h =
    let p = and_parts (le_z (negsuc 86399) z) (le_z z (pos 86400)) h in
    near_fits z (leZ_true (negsuc 86399) z p.0) (leZ_true z (pos 86400) p.1)

-- ---- lists in two parts

split_sound : (ds ts : List Row) → list_all sound (ds ++ ts) ≡ true → (list_all sound ds ≡ true) × (list_all sound ts ≡ true)
split_sound [] ts h = (refl, h)
split_sound (d ∷ ds) ts h =
    let p = and_parts (sound d) (list_all sound (ds ++ ts)) h in
    let q = split_sound ds ts p.1 in
    (and_from (sound d) (list_all sound ds) p.0 q.0, q.1)

-- one group goes over from what is to come to what is done
shift : (ds : List Row) (r : Row) (ts : List Row) → (ds ++ r ∷ []) ++ ts ≡ ds ++ r ∷ ts
shift ds r ts = append_assoc ds (r ∷ []) ts

append_none : (ds : List Row) → ds ++ [] ≡ ds
append_none [] = refl
append_none (d ∷ ds) = ap (λ (xs : List Row). d ∷ xs) (append_none ds)

-- ---- the sheet on the way

module _ (n : ℕ) (c : Content) (exists : CanExist c) where
  kept : Kept c
  kept = exists.keeps

  -- the sheet with these rows, at the pace in the end
  abbrev with : List Row → Held
  with rs = outside_trial n (record { rows = rs; pace = c.pace })

  -- rows looser than those in the end have an order of play
  looser_plays : (us : List Row) → Looser us c.rows → playable us c.pace ≡ true
  looser_plays us h = decided (record { rows = us; pace = c.pace }) kept.steady (looser_play us c.rows c.pace h (plays c kept.steady kept.possible))

  module _ (ds : List Row) (r : Row) (ts : List Row) (whole : c.rows ≡ ds ++ r ∷ ts) where
    all_sound : (list_all sound ds ≡ true) × ((sound r ≡ true) × (list_all sound ts ≡ true))
    all_sound =
        let p = split_sound ds (r ∷ ts) (subst (λ (rs : List Row). list_all sound rs ≡ true) whole kept.kept) in
        let q = and_parts (sound r) (list_all sound ts) p.1 in
        (p.0, (q.0, q.1))

    below : Below r.number ds
    below = before_middle ds r ts (subst (λ (rs : List Row). rising (numbers_of rs) ≡ true) whole kept.sorted)

    room : length ds < 64
    room = let a = ap length whole in let b = length-append ds (r ∷ ts) in let f = exists.few in omega arith

    -- ---- entering

    abbrev us : List Row
    us = map as_waiting ds

    new_place : place r.number us ≡ length us
    new_place = ap (place r.number) (sym (append_none us)) ∙ place_behind r.number us [] (below_waiting r.number ds below) ∙ omega arith

    entered : joined (as_waiting r) us ≡ map as_waiting (ds ++ r ∷ [])
    entered = inserted_last us (as_waiting r) _ (place_for_last r.number us (below_waiting r.number ds below)) ∙ sym (map-append as_waiting ds (r ∷ []))

    front_sound : list_all sound (ds ++ r ∷ []) ≡ true
    front_sound = (split_sound (ds ++ r ∷ []) ts (subst (λ (rs : List Row). list_all sound rs ≡ true) (whole ∙ sym (shift ds r ts)) kept.kept)).0

    entered_plays : playable (map as_waiting (ds ++ r ∷ [])) c.pace ≡ true
    entered_plays = looser_plays (map as_waiting (ds ++ r ∷ [])) (subst (λ (rs : List Row). Looser (map as_waiting (ds ++ r ∷ [])) rs) (shift ds r ts ∙ sym whole) (looser_front _ (ds ++ r ∷ []) ts (looser_waiting (ds ++ r ∷ []) front_sound)))

    enter_passes : decision (with us) (Enter r.number r.early r.late) 0 ≡ None
    enter_passes =
        let p = parts r all_sound.1.0 in
        let l = length-map ds as_waiting in
        no_no (asked (with us) (Enter r.number r.early r.late) 0) (
          lt-ltb (length us) 64 (let h = room in omega arith),
          (
            p.number,
            (
              and_from (in_time r.early) (in_time r.late) p.early p.late,
              (
                p.forward,
                (
                  ap not (le-ltb (place r.number us) (length us) (let h = new_place in omega arith)),
                  (
                    ap (λ (rs : List Row). playable rs c.pace) entered ∙ entered_plays,
                    tt,
                  ),
                ),
              ),
            ),
          ),
        )

    enters : (tail : List ℕ) (k : Held) → Ends (with (map as_waiting (ds ++ r ∷ []))) tail k → Ends (with us) (entry r ++ tail) k
    enters tail k more =
        let p = parts r all_sound.1.0 in
        ends_step (entry r) tail _ (with us) k (enter_encodes r.number r.early r.late (number_fits r.number p.number) (time_fits r.early p.early) (time_fits r.late p.late)) enter_passes
        (subst (λ (rs : List Row). Ends (with rs) tail k) (sym entered) more)

    -- ---- standing

    abbrev row_with : Standing → Row
    row_with s = record { number = r.number; early = r.early; late = r.late; standing = s }

    -- those before stand as in the end, this one so, and those after wait
    abbrev mixed : Standing → List Row
    mixed s = ds ++ row_with s ∷ map as_waiting ts

    place_is : (s : Standing) → place r.number (mixed s) ≡ length ds
    place_is s = place_at r.number ds (row_with s) (map as_waiting ts) below refl

    row_is : (s : Standing) → row r.number (mixed s) ≡ row_with s
    row_is s = ap (λ (i : ℕ). get_or (mixed s) i nobody) (place_is s) ∙ get_behind ds (row_with s) (map as_waiting ts)

    is_on : (s : Standing) → on r.number (mixed s) ≡ true
    is_on s =
        let e = place_is s in
        let l = length-append ds (row_with s ∷ map as_waiting ts) in
        lt-ltb (place r.number (mixed s)) (length (mixed s)) (omega arith)

    stepped_rows : (s : Standing) (st : Step) → step_of r.number st (mixed s) ≡ ds ++ made_or (row_with s) (stepped (row_with s) st) ∷ map as_waiting ts
    stepped_rows s st =
        ap (λ (x : Row). set (mixed s) (place r.number (mixed s)) (made_or x (stepped x st))) (row_is s)
        ∙ ap (λ (i : ℕ). set (mixed s) i (made_or (row_with s) (stepped (row_with s) st))) (place_is s)
        ∙ set_behind ds (row_with s) (made_or (row_with s) (stepped (row_with s) st)) (map as_waiting ts)

    mixed_plays : (s : Standing) → Eases (row_with s) r → playable (mixed s) c.pace ≡ true
    mixed_plays s ease = looser_plays (mixed s) (subst (λ (rs : List Row). Looser (mixed s) rs) (sym whole) (looser_behind ds (row_with s ∷ map as_waiting ts) (r ∷ ts) (ease, looser_waiting ts all_sound.1.1)))

    module _ (t : ℤ) (inside : within r.early r.late t ≡ true) (ease : Eases (row_with (Called t)) r) where
      time : in_time t ≡ true
      time = let p = parts r all_sound.1.0 in between_in_time r.early r.late t p.early p.late inside

      call_passes : decision (with (mixed Waiting)) (CallUp r.number t) 0 ≡ None
      call_passes =
          no_no (asked (with (mixed Waiting)) (CallUp r.number t) 0) (
            time,
            (
              is_on Waiting,
              (
                ap (λ (x : Row). is_ok (stepped x (step.CallUp t))) (row_is Waiting),
                (
                  ap (λ (x : Row). within (counts x).early (counts x).late t) (row_is Waiting) ∙ inside,
                  (
                    ap (λ (rs : List Row). playable rs c.pace) (stepped_rows Waiting (step.CallUp t)) ∙ mixed_plays (Called t) ease,
                    tt,
                  ),
                ),
              ),
            ),
          )

      calls : (tail : List ℕ) (k : Held) → Ends (with (mixed (Called t))) tail k → Ends (with (mixed Waiting)) (call_record r.number t ++ tail) k
      calls tail k more =
          let p = parts r all_sound.1.0 in
          ends_step (call_record r.number t) tail _ (with (mixed Waiting)) k (call_encodes r.number t (number_fits r.number p.number) (time_fits t time)) call_passes
          (subst (λ (rs : List Row). Ends (with rs) tail k) (sym (stepped_rows Waiting (step.CallUp t))) more)

      away_passes : decision (with (mixed (Called t))) (SendAway r.number) 0 ≡ None
      away_passes = no_no (asked (with (mixed (Called t))) (SendAway r.number) 0) (refl, (is_on (Called t), (ap (λ (x : Row). is_ok (stepped x step.SendAway)) (row_is (Called t)), tt)))

      goes_away : (tail : List ℕ) (k : Held) → Ends (with (mixed (Away t))) tail k → Ends (with (mixed (Called t))) (away_record r.number ++ tail) k
      goes_away tail k more =
          let p = parts r all_sound.1.0 in
          ends_step (away_record r.number) tail _ (with (mixed (Called t))) k (away_encodes r.number (number_fits r.number p.number)) away_passes
          (subst (λ (rs : List Row). Ends (with rs) tail k) (sym (stepped_rows (Called t) step.SendAway)) more)

    kept_so : (s : Standing) → r.standing ≡ s → kept_time s r.early r.late ≡ true
    kept_so s e = subst (λ (x : Standing). kept_time x r.early r.late ≡ true) e (parts r all_sound.1.0).time

    counts_so : (s : Standing) → r.standing ≡ s → (x : ℤ) → In (counts r) x → In (window_by s r.early r.late) x
    counts_so s e x i = subst (λ (y : Standing). In (window_by y r.early r.late) x) e i

    stands : (s : Standing) → r.standing ≡ s → (tail : List ℕ) (k : Held) → Ends (with (mixed s)) tail k → Ends (with (mixed Waiting)) (standing_records s r.number ++ tail) k
    stands Waiting e tail k more = more
    stands (Called t) e tail k more = calls t (kept_so (Called t) e) (counts_so (Called t) e) tail k more
    stands (Away t) e tail k more =
        subst (λ (bs : List ℕ). Ends (with (mixed Waiting)) bs k) (sym (append_assoc (call_record r.number t) (away_record r.number) tail))
        (calls t (kept_so (Away t) e) (counts_so (Away t) e) (away_record r.number ++ tail) k (goes_away t (kept_so (Away t) e) (counts_so (Away t) e) tail k more))

  -- ---- all groups

  all_enter : (ds ts : List Row) → c.rows ≡ ds ++ ts → (tail : List ℕ) (k : Held) → Ends (with (map as_waiting c.rows)) tail k → Ends (with (map as_waiting ds)) (flat_map entry ts ++ tail) k
  all_enter ds [] whole tail k more = subst (λ (rs : List Row). Ends (with (map as_waiting rs)) tail k) (whole ∙ append_none ds) more
  all_enter ds (r ∷ ts) whole tail k more =
      subst (λ (bs : List ℕ). Ends (with (map as_waiting ds)) bs k) (sym (append_assoc (entry r) (flat_map entry ts) tail))
      (enters ds r ts whole (flat_map entry ts ++ tail) k (all_enter (ds ++ r ∷ []) ts (whole ∙ sym (shift ds r ts)) tail k more))

  all_stand : (ds ts : List Row) → c.rows ≡ ds ++ ts → Ends (with (ds ++ map as_waiting ts)) (flat_map stand ts) (with c.rows)
  all_stand ds [] whole = subst (λ (rs : List Row). Ends (with rs) [] (with c.rows)) whole (ends (with c.rows))
  all_stand ds (r ∷ ts) whole =
      stands ds r ts whole r.standing refl (flat_map stand ts) (with c.rows)
      (subst (λ (rs : List Row). Ends (with rs) (flat_map stand ts) (with c.rows)) (shift ds r (map as_waiting ts)) (all_stand (ds ++ r ∷ []) ts (whole ∙ sym (shift ds r ts))))

  -- ---- the pace, and then the groups

  abbrev groups : List ℕ
  groups = flat_map entry c.rows ++ flat_map stand c.rows

  pace_passes : decision (outside_trial n blank) (Pace c.pace) 0 ≡ None
  pace_passes = no_no (asked (outside_trial n blank) (Pace c.pace) 0) (kept.steady, (none_play c.pace, tt))

  pace_fits : c.pace < 65536
  pace_fits = let h = leb-true c.pace 3600 (and_parts (leb 1 c.pace) (leb c.pace 3600) kept.steady).1 in omega arith

  records_end : Ends (outside_trial n blank) (pace_record c.pace ++ groups) (outside_trial n c)
  records_end = ends_step (pace_record c.pace) groups _ (outside_trial n blank) (outside_trial n c) (pace_encodes c.pace pace_fits) pace_passes (all_enter [] c.rows refl (flat_map stand c.rows) (outside_trial n c) (all_stand [] c.rows refl))

-- ---- the roll as a whole

rows_short : (f : Row → List ℕ) → ((r : Row) → length (f r) ≤ 12) → (rs : List Row) → length (flat_map f rs) ≤ 12 * length rs
rows_short f h [] = omega arith
rows_short f h (r ∷ rs) =
    let a = length-append (f r) (flat_map f rs) in
    let b = rows_short f h rs in
    let d = h r in
    omega arith

stand_short : (r : Row) → length (stand r) ≤ 12
stand_short r = go r.standing
  where
    go : (s : Standing) → length (standing_records s r.number) ≤ 12
    go Waiting = omega arith
    go (Called t) = omega arith
    go (Away t) = omega arith

pub entries_short : (rs : List Row) → length (flat_map entry rs) ≤ 12 * length rs
entries_short rs = rows_short entry (λ r. omega arith) rs

pub stands_short : (rs : List Row) → length (flat_map stand rs) ≤ 12 * length rs
stands_short rs = rows_short stand stand_short rs

written_short : (c : Content) → length c.rows ≤ 64 → length (written.written c) ≤ 1545
written_short c few =
    let a = entries_short c.rows in
    let b = stands_short c.rows in
    let d = length-append (flat_map entry c.rows) (flat_map stand c.rows) in
    omega arith

begins_well : (c : Content) → length c.rows ≤ 64 → first_no (roll.questions (written.written c)) ≡ None
begins_well c few =
    let l = written_short c few in
    no_no (roll.questions (written.written c)) (
      le-leb (length (written.written c)) 4096 (omega arith),
      (
        ap (λ (b : Bool). b && true && true && true) (le-leb 3 (length (written.written c)) (omega arith)),
        (
          ap (λ (b : Bool). b && true) (le-leb 5 (length (written.written c)) (omega arith)),
          tt,
        ),
      ),
    )

pub gives_back : (c : Content) → CanExist c → GivesBack (written.written c) c
gives_back c exists n =
    ap (λ (o : Option ℕ). let m = begun o (read_from 1 5 (drop 5 (written.written c))) in playing (outside_trial n blank) m.records m.fault) (begins_well c exists.few)
    ∙ records_end n c exists 1 5
