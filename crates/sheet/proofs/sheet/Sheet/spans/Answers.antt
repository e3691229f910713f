use Rattle.std.proofs.Common.{List, [], reverse, length, take, pos, IfOk, refl, ap, ◌∙◌, subst}
use Rattle.reckoning.specs.Lists.{answer, leaves}
use Rattle.reckoning.specs.Spans.{Unused, spans_told}
use Rattle.sheet.specs.declared.row.Row.{Row}
use Rattle.sheet.specs.Answers.{count, said_by}
use Rattle.sheet.specs.Calls.{Spans}
use Rattle.sheet.specs.Content.{windows_of}
use Rattle.sheet.specs.Book.{lists}
use Rattle.sheet.specs.Sheets.{content}
use Rattle.sheet.proofs.Listing.{listed_whole}
use Rattle.sheet.proofs.Steps.{spans_go_on}
use Rattle.sheet.proofs.Tried.{few}
use Rattle.sheet.proofs.sheet.Sheet.spans.Goals as goal

pub returns : goal.returns
returns c =
    let s = c.args.self.now in
    let rs = (content s).rows in
    let p = s.holding.pace in
    let before = c.args.list.now in
    let room = length before in
    let told = ap (λ (us : List Row). spans_told p (windows_of us) room) c.rows.ensures ∙ listed_whole rs p room reverse s.holding.keeps.steady (few s) s.holding.keeps.kept s.holding.keeps.possible in
    let said = c.spans.ensures.answer ∙ ap answer told in
    let left = c.spans.ensures.list ∙ ap (λ o. leaves o before) told in
    record {
      writes = record { answer = said; list = left };
      law = (spans_go_on s (lists [] before) _ Spans _ refl (ap (said_by count) said) left).law;
      held = refl;
      unused = subst (λ (us : List Row). IfOk c.spans.result (λ n. Unused (pos p) (windows_of us) (take n c.spans.new.list))) c.rows.ensures c.spans.ensures.unused;
    }
