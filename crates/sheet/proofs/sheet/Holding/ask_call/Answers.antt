use Rattle.std.proofs.Common.{◌≡◌, ℕ, true, [], ◌∷◌, set, ℤ, is_ok, None, Ok, Result, ap, ◌∙◌, subst, w32, rules}
use Rattle.std.proofs.lemmas.Int.{to_z-of_z}
use Rattle.field.specs.Refusals.{first_no}
use Rattle.reckoning.specs.Questions.{in_time}
use Rattle.sheet.specs.declared.row.Row.{Row}
use Rattle.sheet.specs.declared.sheet.Holding.{Holding}
use Rattle.sheet.specs.declared.row.Step.TheVariants as step
use Rattle.sheet.specs.Calls.{CallUp, change_made, made_or, stepped_at, with_rows}
use Rattle.sheet.specs.Content.{on, place, row}
use Rattle.sheet.specs.Questions.{answered, asked_13, q_time, q_on, q_standing, q_inside, q_order}
use Rattle.sheet.specs.Sheets.{content_of}
use Rattle.sheet.specs.Sound.{sound, within}
use Rattle.sheet.specs.Standings.{counts, stepped}
use Rattle.field.proofs.InARow.{all_yes, no_no}
use Rattle.sheet.proofs.Stopping.{all_passed, passed, stops}
use Rattle.sheet.proofs.Stepping.{sound_row, called_sound}
use Rattle.sheet.proofs.sheet.Holding.ask_call.Goals as goal
use Rattle.sheet.proofs.sheet.Holding.ask_call.Goals.{Else-not-is_within}

-- what is known once the time is found inside the window that counts
record Known (s : Holding) (g : ℕ) (t : ℤ) (i : ℕ) (r : Row) : Type 0 where
  six : in_time t ≡ true
  eight : on g (content_of s).rows ≡ true
  ten : is_ok (stepped (row g (content_of s).rows) (step.CallUp t)) ≡ true
  eleven : within (counts (row g (content_of s).rows)).early (counts (row g (content_of s).rows)).late t ≡ true
  at : i ≡ place g (content_of s).rows
  same : r ≡ made_or (row g (content_of s).rows) (stepped (row g (content_of s).rows) (step.CallUp t))

known : (c : Else-not-is_within) → Known c.args.self.now c.args.number c.args.time c.in_ok-place.place c.in_ok-place.row
known c =
    let rs = (content_of c.args.self.now).rows in
    let g = c.args.number in
    let t = c.args.time in
    let x = to_z-of_z w32 t c.ranges.time in
    let new : ℕ × Row = (c.in_ok-place.place, c.in_ok-place.row) in
    let stepped = subst (λ (u : ℤ). ◌≡◌ {A = Result (ℕ × Row) ℕ} (Ok new) (answered (first_no (q_on g rs ∷ q_standing g (step.CallUp u) rs ∷ [])) (stepped_at g (step.CallUp u) rs))) x c.in_ok-place.ensures in
    let p = passed (first_no (q_on g rs ∷ q_standing g (step.CallUp t) rs ∷ [])) (stepped_at g (step.CallUp t) rs) new stepped in
    let v = all_yes (q_on g rs ∷ q_standing g (step.CallUp t) rs ∷ []) p.0 in
    let at = ap (λ (z : ℕ × Row). z.0) p.1 in
    record {
      six = search rules;
      eight = v.0;
      ten = v.1.0;
      eleven = search rules;
      at = at;
      same = ap (λ (z : ℕ × Row). z.1) p.1;
    }

-- the questions before 13 are passed
asked : (s : Holding) (g : ℕ) (t : ℤ) (i : ℕ) (r : Row) → Known s g t i r → first_no (q_time t ∷ q_on g (content_of s).rows ∷ q_standing g (step.CallUp t) (content_of s).rows ∷ q_inside g t (content_of s).rows ∷ []) ≡ None
asked s g t i r k =
    let rs = (content_of s).rows in
    no_no (q_time t ∷ q_on g rs ∷ q_standing g (step.CallUp t) rs ∷ q_inside g t rs ∷ []) (k.six, (k.eight, (k.ten, (k.eleven, tt))))

-- what was tried is the change made
tried : (s : Holding) (g : ℕ) (t : ℤ) (i : ℕ) (r : Row) → Known s g t i r → asked_13 (with_rows (content_of s) (set (content_of s).rows i r)) ≡ asked_13 (change_made (CallUp g t) (content_of s))
tried s g t i r k = λ j. asked_13 (with_rows (content_of s) (set (content_of s).rows (k.at j) (k.same j)))

pub plays_with-requires : goal.plays_with-requires
plays_with-requires c =
    let s = c.args.self.now in
    let rs = (content_of s).rows in
    let g = c.args.number in
    let t = c.args.time in
    let k = known c in
    ap sound k.same ∙ called_sound (row g rs) t (sound_row g rs k.eight s.keeps.kept) k.eleven k.ten

pub returns-in_err-plays_with : goal.returns-in_err-plays_with
returns-in_err-plays_with c =
    let s = c.args.self.now in
    let rs = (content_of s).rows in
    let g = c.args.number in
    let t = c.args.time in
    let k = known (goal.at.returns-in_err-plays_with c).Else-not-is_within in
    let first = q_time t ∷ q_on g rs ∷ q_standing g (step.CallUp t) rs ∷ q_inside g t rs ∷ [] in
    let last = q_order (change_made (CallUp g t) (content_of s)) ∷ [] in
    stops first last [] c.from_residual-in_err-plays_with.result c.in_err-plays_with.field-0.0 (stepped_at g (step.CallUp t) rs) tt (asked s g t _ _ k) (search rules) (c.in_err-plays_with.ensures ∙ tried s g t _ _ k)

pub returns : goal.returns
returns c =
    let s = c.args.self.now in
    let rs = (content_of s).rows in
    let g = c.args.number in
    let t = c.args.time in
    let k = known (goal.at.returns c).Else-not-is_within in
    let first = q_time t ∷ q_on g rs ∷ q_standing g (step.CallUp t) rs ∷ q_inside g t rs ∷ [] in
    let last = q_order (change_made (CallUp g t) (content_of s)) ∷ [] in
    all_passed first last (c.in_ok-place.place, c.in_ok-place.row) (stepped_at g (step.CallUp t) rs) (asked s g t _ _ k) (passed (first_no last) tt tt (c.in_ok-plays_with.ensures ∙ tried s g t _ _ k)).0 (λ j. (k.at j, k.same j))
