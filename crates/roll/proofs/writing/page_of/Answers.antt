use Rattle.std.proofs.Common.{◌≡◌, length, take, get_or, ap, arith, length-append}
use Rattle.std.proofs.lemmas.List.{take_more, flat_map_more}
use Rattle.page.specs.Pages.{text}
use Rattle.sheet.specs.Standings.{nobody}
use Rattle.roll.specs.Written.{entry}
use Rattle.roll.proofs.writing.page_of.Goals as goal

pub loop-row-preserved : goal.loop-row-preserved
loop-row-preserved c =
    let rows = c.all-rows.result.now in
    let i = c.loop-row.row-index in
    let t = take_more rows i nobody c.loop-row-test.true in
    let m = flat_map_more entry (text c.add-2.new.self) (take i rows) (get_or rows i nobody) in
    let whole = ap length c.add-in-loop-row.ensures in
    let both = length-append (text c.loop-row.page) c.enter_record.result in
    let twelve : length c.enter_record.result ≡ 12 = ap length c.enter_record.ensures in
    record { added = cc; short = omega arith }
