use Rattle.std.proofs.Common.{◌≡◌, set, ap, ◌∙◌, arith, length-set, w32, to_z, of_z, rules}
use Rattle.sheet.specs.declared.rows.Rows.{Rows}
use Rattle.sheet.specs.Sheets.{content_of}
use Rattle.sheet.specs.Sound.{sound}
use Rattle.field.proofs.Same.{same_window}
use Rattle.sheet.specs.Standings.{counts}
use Rattle.sheet.proofs.Passing.{pass_set}
use Rattle.sheet.proofs.Tried.{tried, few_in, held_windows}
use Rattle.sheet.proofs.sheet.Holding.plays_with.Goals as goal

pub returns : goal.returns
returns c =
    let s = c.args.self.now in
    let rs = (content_of s).rows in
    let i = c.args.place in
    let r = c.args.row in
    let h = c.new.ensures in
    let n = length-set rs i r in
    let f = few_in s in
    let below = ap (λ (x : Rows). x.rows.now) h.0 ∙ c.rows.ensures in
    let w = c.counts-early.result in
    let x : to_z w32 (of_z w32 w.0) ≡ w.0 = search rules in
    let y : to_z w32 (of_z w32 w.1) ≡ w.1 = search rules in
    let windows = held_windows rs _ i _ r _ below h.1 (h.2 ∙ same_window _ (counts r) (x ∙ c.counts-early.ensures.early) (y ∙ c.counts-early.ensures.late)) in
    tried (record { rows = set rs i r; pace = s.pace }) _ c.possible.result windows c.possible.ensures.answer s.keeps.steady (omega arith) (pass_set sound rs i r s.keeps.kept c.requires)
