use Rattle.std.proofs.Common.{◌≡◌, ◌<◌, ◌≤◌, true, List, length, sym, ◌∙◌, subst, arith}
use Rattle.std.specs.List.{insert, list_all}
use Rattle.std.proofs.lemmas.List.Edits.{length-insert}
use Rattle.sheet.specs.declared.row.Row.{Row}
use Rattle.sheet.specs.Sheets.{content_of}
use Rattle.sheet.specs.Sound.{sound}
use Rattle.sheet.proofs.Passing.{pass_inserted}
use Rattle.sheet.proofs.Tried.{tried, more_windows}
use Rattle.sheet.proofs.sheet.Holding.plays_also.Goals as goal

pub new-requires : goal.new-requires
new-requires c =
    let s = c.args.self.now in
    let e = sym c.rows.ensures in
    record {
      inside = subst (λ (rs : List Row). c.args.place ≤ length rs) e c.requires.inside;
      room = subst (λ (rs : List Row). length rs < 64) e c.requires.room;
      kept = subst (λ (rs : List Row). list_all sound (insert rs c.args.place c.args.row) ≡ true) e (pass_inserted sound (content_of s).rows c.args.place c.args.row s.keeps.kept c.requires.sound);
    }

pub returns : goal.returns
returns c =
    let s = c.args.self.now in
    let rs = (content_of s).rows in
    let i = c.args.place in
    let r = c.args.row in
    let n = length-insert rs i r c.requires.inside in
    let h = c.requires.room in
    let few : length (insert rs i r) ≤ 64 = omega arith in
    let e = c.new.ensures in
    let windows = more_windows rs _ i _ r _ (e.0 ∙ c.rows.ensures) e.1 e.2 in
    tried (record { rows = insert rs i r; pace = s.pace }) _ c.possible.result windows c.possible.ensures.answer s.keeps.steady few (pass_inserted sound rs i r s.keeps.kept c.requires.sound)
