use Rattle.std.proofs.Common.{◌≡◌, ℕ, true, List, Err, sym, refl, subst, rules}
use Rattle.reckoning.specs.Range.{RangeTold}
use Rattle.sheet.specs.declared.row.Row.{Row}
use Rattle.sheet.specs.Book.{no_lists}
use Rattle.sheet.specs.Calls.{RangeOf}
use Rattle.sheet.specs.Content.{on, place, windows_of}
use Rattle.sheet.specs.Ranges.{GroupTold}
use Rattle.sheet.specs.Sheets.{content}
use Rattle.sheet.proofs.Playing.{plays}
use Rattle.sheet.proofs.Ranging.{group_told}
use Rattle.sheet.proofs.Steps.{range_goes_on}
use Rattle.sheet.proofs.Tried.{few}
use Rattle.sheet.proofs.sheet.Sheet.range.Goals as goal

pub returns-in_err-place : goal.returns-in_err-place
returns-in_err-place c =
    let s = c.args.self.now in
    let g = c.args.number in
    let q = c.in_err-place.field-0.0 in
    let i : c.from_residual.result ≡ Err q = search rules in
    let no : GroupTold (content s) g (Err q) = search rules in
    let told = subst (GroupTold (content s) g) (sym i) no in
    record { exact = told; law = (range_goes_on s no_lists _ (RangeOf g) g c.from_residual.result refl told refl).law }

pub returns : goal.returns
returns c =
    let s = c.args.self.now in
    let rs = (content s).rows in
    let g = c.args.number in
    let eight : on g rs ≡ true = search rules in
    let at : c.in_ok-place.place ≡ place g rs = search rules in
    let found = subst (λ (us : List Row). RangeTold s.holding.pace (windows_of us) c.in_ok-place.place c.range.result) c.rows.ensures c.range.ensures.exact in
    let told = group_told (content s) g s.holding.keeps.steady (few s) s.holding.keeps.kept (plays (content s) s.holding.keeps.steady s.holding.keeps.possible) eight c.range.result (subst (λ (i : ℕ). RangeTold s.holding.pace (windows_of rs) i c.range.result) at found) in
    record { exact = told; law = (range_goes_on s no_lists _ (RangeOf g) g c.range.result refl told refl).law }
