use Rattle.std.proofs.Common.{rules}
use Rattle.std.proofs.lemmas.List.Sorted.{answers_always}
use Rattle.sheet.proofs.Searching.{searches}
use Rattle.sheet.proofs.sheet.Holding.search.Goals as goal

pub returns : goal.returns
returns c =
    let facts = c.binary_search_by_key.ensures in
    let by_key = facts.position (λ row. row.number) (answers_always _ _ _ (λ f a r g called. search rules)) in
    rw (← c.rows.ensures) (searches c.args.number c.rows.result.now (rw c.rows.ensures c.args.self.now.keeps.sorted) c.binary_search_by_key.result facts.bound by_key)
