-- Two books fed the same cannot differ.
use Rattle.std.proofs.Common.{◌≡◌, ℕ, List, ℤ, sym, refl, ap, ◌∙◌, subst, arith}
use Rattle.std.proofs.lemmas.Int.{ints}
use Rattle.field.specs.declared.window.Window.{Window}
use Rattle.reckoning.specs.declared.ends.Range.{Range}
use Rattle.reckoning.specs.Range.{Bounds}
use Rattle.sheet.specs.Calls.{Call, Enter, Change, Withdraw, Pace, CallUp, StandDown, SendAway, Open, Keep, Back, Order, Through, RangeOf, Spans}
use Rattle.sheet.specs.Trials.{Held, kind}
use Rattle.sheet.specs.Answers.{Said, range, refused}
use Rattle.sheet.specs.Book.{Lists, Passes, FirstNo, Told, held, marked, start, more, empty, refusal, entry}
use Rattle.sheet.specs.OneBook.{OneBook}
use Rattle.sheet.proofs.Settling.{no_both, one_no}

both_same : {X Y : Type 0} (a b c : X) (x y z : Y) → (a ≡ c) × (x ≡ z) → (b ≡ c) × (y ≡ z) → (a ≡ b) × (x ≡ y)
both_same a b c x y z p q = (p.0 ∙ sym q.0, p.1 ∙ sym q.1)

one_range : (p : ℤ) (ws : List Window) (i : ℕ) (r q : Range) → Bounds p ws i r → Bounds p ws i q → r ≡ q
one_range p ws i r q a b =
    let u = a.0.1 b.0.0.0 b.0.0.1 in
    let v = b.0.1 a.0.0.0 a.0.0.1 in
    let s = a.1.1 b.1.0.0 b.1.0.1 in
    let t = b.1.1 a.1.0.0 a.1.0.1 in
    let x = a.0.0.2 in
    let y = b.0.0.2 in
    let z = a.1.0.2 in
    let w = b.1.0.2 in
    let first : r.first ≡ q.first = omega (arith, ints) in
    let last : r.last ≡ q.last = omega (arith, ints) in
    λ k. record { first = first k; last = last k }

one_told : (h : Held) (call : Call) (given : Lists) (a b : Said) (x y : Lists) → Told h call given a x → Told h call given b y → (a ≡ b) × (x ≡ y)
one_told h (Enter g e l) given a b x y p q = both_same a b _ x y _ p q
one_told h (Change g e l) given a b x y p q = both_same a b _ x y _ p q
one_told h (Withdraw g) given a b x y p q = both_same a b _ x y _ p q
one_told h (Pace s) given a b x y p q = both_same a b _ x y _ p q
one_told h (CallUp g t) given a b x y p q = both_same a b _ x y _ p q
one_told h (StandDown g) given a b x y p q = both_same a b _ x y _ p q
one_told h (SendAway g) given a b x y p q = both_same a b _ x y _ p q
one_told h Open given a b x y p q = both_same a b _ x y _ p q
one_told h (Keep s) given a b x y p q = both_same a b _ x y _ p q
one_told h (Back s) given a b x y p q = both_same a b _ x y _ p q
one_told h Order given a b x y p q = both_same a b _ x y _ p q
one_told h (Through g t) given a b x y p q = both_same a b _ x y _ p q
one_told h (RangeOf g) given a b x y p q = (p.1 ∙ ap range (one_range _ _ _ p.0 q.0 p.2 q.2) ∙ sym q.1, p.3 ∙ sym q.3)
one_told h Spans given a b x y p q = both_same a b _ x y _ p q

-- what is said of a column, a call and its lists is said of the same ones in another's words
module _ (n : ℕ) (P : Held → Call → Lists → Type 0) (v w : List Call) (c d : Call) (x y : Lists) (e : v ≡ w) (f : c ≡ d) (g : x ≡ y) where
  in_words : P (held n w) d y → P (held n v) c x
  in_words p = subst (λ (z : List Call). P (held n z) c x) (sym e) (subst (λ (z : Call). P (held n w) z x) (sym f) (subst (λ (z : Lists). P (held n w) d z) (sym g) p))

pub one_book : OneBook
one_book n start start c d empty empty f = (refl, tt)
one_book n start (more fs g) c d p q f = absurd f
one_book n (more es e) start c d p q f = absurd f
one_book n (more es e) (more fs g) c d (refusal {col = v} p r) (refusal {col = w} q s) f =
    let i = one_book n es fs v w p q f.0 in
    let k = in_words n (λ h call given. FirstNo h call given s.number) v w e.call g.call e.given g.given i.0 f.1 f.2 s.first in
    let m = one_no (held n v) e.call e.given r.number s.number r.first k in
    (i.0, (i.1, r.says ∙ ap (refused (kind e.call)) m ∙ ap (λ (x : Call). refused (kind x) s.number) f.1 ∙ sym s.says, r.lists ∙ f.2 ∙ sym s.lists))
one_book n (more es e) (more fs g) c d (refusal {col = v} p r) (entry {col = w} q s) f =
    let i = one_book n es fs v w p q f.0 in
    let k = in_words n Passes v w e.call g.call e.given g.given i.0 f.1 f.2 s.passes in
    absurd (no_both (held n v) e.call e.given r.number k r.first)
one_book n (more es e) (more fs g) c d (entry {col = v} p r) (refusal {col = w} q s) f =
    let i = one_book n es fs v w p q f.0 in
    let k = in_words n (λ h call given. FirstNo h call given s.number) v w e.call g.call e.given g.given i.0 f.1 f.2 s.first in
    absurd (no_both (held n v) e.call e.given s.number r.passes k)
one_book n (more es e) (more fs g) c d (entry {col = v} p r) (entry {col = w} q s) f =
    let i = one_book n es fs v w p q f.0 in
    let k = in_words n (λ h call given. Told h call given g.answer g.left) v w e.call g.call e.given g.given i.0 f.1 f.2 s.tells in
    let o = one_told (held n v) e.call e.given e.answer g.answer e.left g.left r.tells k in
    (ap (marked (kind e.call) e.call) i.0 ∙ ap (λ (x : Call). marked (kind x) x w) f.1, (i.1, o.0, o.1))
