use Rattle.std.proofs.Common.{◌≡◌, ℕ, ◌+◌, ◌-◌, get_or, sym, ap, ◌∙◌, subst, arith}
use Rattle.std.specs.List.{insert}
use Rattle.std.proofs.lemmas.List.Edits.{get_or-insert_below, get_or-insert_at, get_or-insert_above}
use Rattle.sheet.specs.Standings.{nobody}
use Rattle.sheet.proofs.one_more.OneMore.row_at.Goals as goal

pub returns-then-place-self : goal.returns-then-place-self
returns-then-place-self c =
    let s = c.args.self.now in
    c.row_at.ensures ∙ sym (get_or-insert_below s.rows.now s.place s.row nobody c.args.place c.if-place-self.true s.inside)

pub returns-then-place-self-2 : goal.returns-then-place-self-2
returns-then-place-self-2 c =
    let s = c.args.self.now in
    sym (ap (λ (k : ℕ). get_or (insert s.rows.now s.place s.row) k nobody) c.if-place-self-2.true ∙ get_or-insert_at s.rows.now s.place s.row nobody s.inside)

pub returns-else-place-self-2 : goal.returns-else-place-self-2
returns-else-place-self-2 c =
    let s = c.args.self.now in
    let k = c.args.place in
    let z : k - 1 + 1 ≡ k = omega arith in
    c.row_at-else-place-self-2.ensures
    ∙ sym (subst (λ (n : ℕ). get_or (insert s.rows.now s.place s.row) n nobody ≡ get_or s.rows.now (k - 1) nobody) z (get_or-insert_above s.rows.now s.place s.row nobody (k - 1) (omega arith) s.inside))
