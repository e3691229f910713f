use Rattle.std.proofs.Common.{◌≡◌, ℕ, List, length, Result, sym, ap, ◌∙◌}
use Rattle.page.specs.Pages.{text, fitted}
use Rattle.reckoning.specs.Lists.{answer, leaves}
use Rattle.sheet.specs.Sheets.{content, holds}
use Rattle.sheet.proofs.Keeping.{kept_by_sheet}
use Rattle.sheet.proofs.Tried.{few}
use Rattle.roll.specs.RoundTrip.{GivesBack}
use Rattle.roll.specs.Written.{written}
use Rattle.roll.proofs.Round.{gives_back}
use Rattle.roll.proofs.Wrote.{no_trial, holds_of_written}
use Rattle.roll.proofs.writing.write.Goals as goal

pub returns : goal.returns
returns c =
    let s = c.args.sheet.now in
    let before = c.args.list.now in
    let room = length before in
    let bs = written (content s) in
    let same : fitted (text c.page_of.result) room ≡ fitted bs room = ap (λ (x : List ℕ). fitted x room) c.page_of.ensures in
    let same-roll = sym (no_trial (holds s) room (sym c.is_in_trial.ensures ∙ c.if-is_in_trial.false)) in
    let a = c.copy_to.ensures.answer ∙ ap (λ (r : Result (List ℕ) ℕ). answer r) same in
    let l = c.copy_to.ensures.list ∙ ap (λ (r : Result (List ℕ) ℕ). leaves r before) same in
    record {
      answer = a ∙ ap (λ (r : Result (List ℕ) ℕ). answer r) same-roll;
      list = l ∙ ap (λ (r : Result (List ℕ) ℕ). leaves r before) same-roll;
      back = holds_of_written (λ (x : List ℕ). GivesBack x (content s)) c.copy_to.result bs before c.copy_to.new.list room a l (gives_back (content s) (record { few = few s; keeps = kept_by_sheet s }));
    }
