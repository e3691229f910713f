use Rattle.std.proofs.Common.{◌≡◌, ℕ, set, ℤ, Ok, Err, Result, refl, ap, subst, arith, w32, rules}
use Rattle.std.proofs.lemmas.Int.{to_z-of_z}
use Rattle.field.specs.Refusals.{number_of}
use Rattle.sheet.specs.declared.row.Row.{Row}
use Rattle.sheet.specs.declared.sheet.Sheet.{Sheet}
use Rattle.sheet.specs.declared.row.Step.TheVariants as step
use Rattle.sheet.specs.Calls.{CallUp, change_made, stepped_at, with_rows}
use Rattle.sheet.specs.Questions.{answered, questions, verdict}
use Rattle.sheet.specs.Sheets.{content}
use Rattle.field.proofs.InARow.{all_yes}
use Rattle.sheet.proofs.Keeping.{kept_by_sheet, owed, call_keeps}
use Rattle.sheet.proofs.Plain.{call_plain}
use Rattle.sheet.proofs.Outcomes.{Passed, made, passes, refuses}
use Rattle.sheet.proofs.Stepping.{placed}
use Rattle.sheet.proofs.Thirteen.{call_13}
use Rattle.sheet.proofs.sheet.Sheet.call.Goals as goal

-- every question is passed, and the row is the group's once it has taken the step
said : (s : Sheet) (g : ℕ) (u t : ℤ) (new : ℕ × Row) → u ≡ t → ◌≡◌ {A = Result (ℕ × Row) ℕ} (Ok new) (answered (verdict (content s) (CallUp g u) 0) (stepped_at g (step.CallUp u) (content s).rows)) → Passed s (CallUp g t) new (stepped_at g (step.CallUp t) (content s).rows)
said s g u t new x passed = passes s (CallUp g t) (stepped_at g (step.CallUp t) (content s).rows) new (subst (λ (z : ℤ). ◌≡◌ {A = Result (ℕ × Row) ℕ} (Ok new) (answered (verdict (content s) (CallUp g z) 0) (stepped_at g (step.CallUp z) (content s).rows))) x passed)

pub returns-in_err-place : goal.returns-in_err-place
returns-in_err-place c =
    let s = c.args.self.now in
    let k = content s in
    let g = c.args.number in
    let t = c.args.time in
    let q = c.in_err-place.field-0.0 in
    let i : c.from_residual.result ≡ Err q = search rules in
    let x = to_z-of_z w32 t c.ranges.time in
    let no = subst (λ (u : ℤ). ◌≡◌ {A = Result (ℕ × Row) ℕ} (Err (number_of q)) (answered (verdict k (CallUp g u) 0) (stepped_at g (step.CallUp u) k.rows))) x c.in_err-place.ensures in
    let m = refuses s (CallUp g t) (call_plain g t) (stepped_at g (step.CallUp t) k.rows) c.from_residual.result q i no in
    record { makes = m; thirteen = call_13 k s.holding.keeps.steady c.from_residual.result tt g t m.answer }

pub row_mut-requires : goal.row_mut-requires
row_mut-requires c =
    let s = c.args.self.now in
    let k = content s in
    let g = c.args.number in
    let t = c.args.time in
    let p = said s g _ t (c.in_ok-place.place, c.in_ok-place.row) (to_z-of_z w32 t c.ranges.time) c.in_ok-place.ensures in
    let y = all_yes (questions k (CallUp g t) 0) p.none in
    let inside = placed g k.rows y.1.0 in
    let at = ap (λ (x : ℕ × Row). x.0) p.value in
    let len = s.holding.table.rows.ok.0 in
    omega arith

pub invariant_of-self : goal.invariant_of-self
invariant_of-self c =
    let s = c.args.self.now in
    let k = content s in
    let g = c.args.number in
    let t = c.args.time in
    let p = said s g _ t (c.in_ok-place.place, c.in_ok-place.row) (to_z-of_z w32 t c.ranges.time) c.in_ok-place.ensures in
    record { keeps = owed (change_made (CallUp g t) k) (call_keeps k (kept_by_sheet s) g t p.none) _ s.holding.pace (λ j. set k.rows (p.value j).0 (p.value j).1) refl }

pub returns : goal.returns
returns c =
    let s = c.args.self.now in
    let k = content s in
    let g = c.args.number in
    let t = c.args.time in
    let p = said s g _ t (c.in_ok-place.place, c.in_ok-place.row) (to_z-of_z w32 t c.ranges.time) c.in_ok-place.ensures in
    let m = made s (CallUp g t) (call_plain g t) _ p.none (λ j. with_rows k (set k.rows (p.value j).0 (p.value j).1)) (record { number = refl; saved = refl }) in
    record { makes = m; thirteen = call_13 k s.holding.keeps.steady (Ok tt) tt g t m.answer }
