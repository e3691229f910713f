use Rattle.std.proofs.Common.{◌≡◌, ℕ, set, Err, Option, sym, refl, ap, ◌∙◌, rules}
use Rattle.field.specs.declared.refusal.Refusal.TheVariants.{TrialOpen}
use Rattle.sheet.specs.declared.row.Step.TheVariants as step
use Rattle.sheet.specs.Calls.{SendAway, change_made, stepped_at, with_rows}
use Rattle.sheet.specs.Questions.{answered, questions, verdict}
use Rattle.sheet.specs.Sheets.{content, holds}
use Rattle.sheet.specs.Trials.{decision}
use Rattle.sheet.proofs.Keeping.{kept_by_sheet, owed, away_keeps}
use Rattle.sheet.proofs.Outcomes.{made, passes, refuses}
use Rattle.sheet.proofs.Plain.{away_plain}
use Rattle.sheet.proofs.Slips.{in_trial, outside_trial}
use Rattle.sheet.proofs.sheet.Sheet.away.Goals as goal
use Rattle.sheet.proofs.sheet.Sheet.away.Goals.{Else-self}

-- outside a trial its questions are those about the group
by_group : (c : Else-self) → decision (holds c.args.self.now) (SendAway c.args.number) 0 ≡ verdict (content c.args.self.now) (SendAway c.args.number) 0
by_group c = outside_trial c.args.self.now (questions (content c.args.self.now) (SendAway c.args.number) 0) c.if-self.false

pub returns-then-self : goal.returns-then-self
returns-then-self c =
    let s = c.args.self.now in
    let g = c.args.number in
    let v = in_trial s (questions (content s) (SendAway g) 0) c.if-self.true in
    refuses s (SendAway g) (away_plain g) {Y = Unit {0}} tt (Err TrialOpen) TrialOpen refl (sym (ap (λ (o : Option ℕ). answered {X = Unit {0}} o tt) v))

pub returns-in_err-place : goal.returns-in_err-place
returns-in_err-place c =
    let s = c.args.self.now in
    let g = c.args.number in
    let y = stepped_at g step.SendAway (content s).rows in
    let v = sym (by_group (goal.at.returns-in_err-place c).Else-self) in
    refuses s (SendAway g) (away_plain g) y c.from_residual.result c.in_err-place.field-0.0 (search rules) (c.in_err-place.ensures ∙ ap (λ (o : Option ℕ). answered o y) v)

pub invariant_of-self : goal.invariant_of-self
invariant_of-self c =
    let s = c.args.self.now in
    let k = content s in
    let g = c.args.number in
    let y = stepped_at g step.SendAway k.rows in
    let v = by_group (goal.at.invariant_of-self c).Else-self in
    let p = passes s (SendAway g) y (c.in_ok-place.place, c.in_ok-place.row) (c.in_ok-place.ensures ∙ ap (λ (o : Option ℕ). answered o y) (sym v)) in
    record { keeps = owed (change_made (SendAway g) k) (away_keeps k (kept_by_sheet s) g (sym v ∙ p.none)) _ k.pace (λ j. set k.rows (p.value j).0 (p.value j).1) refl }

pub returns : goal.returns
returns c =
    let s = c.args.self.now in
    let k = content s in
    let g = c.args.number in
    let y = stepped_at g step.SendAway k.rows in
    let v = by_group (goal.at.returns c).Else-self in
    let p = passes s (SendAway g) y (c.in_ok-place.place, c.in_ok-place.row) (c.in_ok-place.ensures ∙ ap (λ (o : Option ℕ). answered o y) (sym v)) in
    made s (SendAway g) (away_plain g) _ p.none (λ j. with_rows k (set k.rows (p.value j).0 (p.value j).1)) (record { number = refl; saved = refl })
