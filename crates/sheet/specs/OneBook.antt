-- The book needs nothing else: the sheet number and the calls with their arguments, slips and lists fix its answers, the
-- lists as it leaves them, and its column.
use Rattle.std.specs.Prelude.{◌≡◌, ℕ, List}
use Rattle.sheet.specs.Calls.{Call}
use Rattle.sheet.specs.Book.{History, start, more, Book}

abbrev pub SameFed : History → History → Type 0
SameFed start start = Unit {0}
SameFed start (more fs f) = ⊥
SameFed (more es e) start = ⊥
SameFed (more es e) (more fs f) = SameFed es fs × (e.call ≡ f.call) × (e.given ≡ f.given)

abbrev pub SameSaid : History → History → Type 0
SameSaid start start = Unit {0}
SameSaid start (more fs f) = ⊥
SameSaid (more es e) start = ⊥
SameSaid (more es e) (more fs f) = SameSaid es fs × (e.answer ≡ f.answer) × (e.left ≡ f.left)

abbrev pub OneBook : Type 0
OneBook = (n : ℕ) (es fs : History) (c d : List Call) → Book n es c → Book n fs d → SameFed es fs → (c ≡ d) × SameSaid es fs
