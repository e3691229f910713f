-- A blank sheet begins by the law.
use Rattle.std.proofs.Common.{◌≡◌, ℕ, Bool, false, cond, [], Some, None, sym, subst}
use Rattle.sheet.specs.declared.sheet.Sheet.{Sheet}
use Rattle.sheet.specs.Content.{blank}
use Rattle.sheet.specs.Sheets.{content, content_of}
use Rattle.sheet.specs.Book.{start, empty}
use Rattle.sheet.specs.Law.{BackTo, Lawful}
use Rattle.sheet.proofs.Playing.{plays}

pub blank_lawful : (s : Sheet) (n : ℕ) → s.number ≡ n → content s ≡ blank → s.trial ≡ false → Lawful n start s
blank_lawful s n e c t = record {
  column = [];
  book = empty;
  holding = λ k. record { sheet = e k; content = c k; trials = cond (t k) 1 0 };
  met = tt;
  back = subst (λ (b : Bool). BackTo (cond b (Some (content_of s.saved)) None) blank) (sym t) tt;
  playable = plays (content s) s.holding.keeps.steady s.holding.keeps.possible;
  thirteen = tt;
  range = tt;
}
