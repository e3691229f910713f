use Rattle.std.proofs.Common.{List, [], map, length, take, pos, IfOk, refl, ap, ◌∙◌, subst}
use Rattle.theory.specs.declared.span.Span.{Span}
use Rattle.reckoning.specs.declared.start.Start.{Start}
use Rattle.reckoning.specs.Lists.{answer, leaves}
use Rattle.reckoning.specs.Order.{Plays, order_told, played, start_of}
use Rattle.sheet.specs.declared.row.Row.{Row}
use Rattle.sheet.specs.Answers.{count, said_by}
use Rattle.sheet.specs.Calls.{Order}
use Rattle.sheet.specs.Content.{numbers_of, order_of, windows_of}
use Rattle.sheet.specs.Book.{lists}
use Rattle.sheet.specs.Sheets.{content}
use Rattle.sheet.proofs.Listing.{listed_whole}
use Rattle.sheet.proofs.Steps.{starts_go_on}
use Rattle.sheet.proofs.Tried.{few}
use Rattle.sheet.proofs.sheet.Sheet.order.Goals as goal

pub returns : goal.returns
returns c =
    let s = c.args.self.now in
    let rs = (content s).rows in
    let p = s.holding.pace in
    let before = c.args.list.now in
    let room = length before in
    let list : List Span → List Start = λ f. map (start_of (numbers_of rs)) (played (pos p) f (windows_of rs)) in
    let told = ap (λ (us : List Row). order_told p (windows_of us) (numbers_of us) room) c.rows.ensures ∙ listed_whole rs p room list s.holding.keeps.steady (few s) s.holding.keeps.kept s.holding.keeps.possible in
    let said = c.order.ensures.answer ∙ ap answer told in
    let left = c.order.ensures.list ∙ ap (λ o. leaves o before) told in
    record {
      writes = record { answer = said; list = left };
      law = (starts_go_on s Order (order_of (content s)) (lists before []) _ _ (λ n. refl) (λ b ls t. t) refl refl Order refl (ap (said_by count) said) left).law;
      held = refl;
      plays = subst (λ (us : List Row). IfOk c.order.result (λ n. Plays (pos p) (windows_of us) (take n c.order.new.list))) c.rows.ensures c.order.ensures.plays;
    }
