-- Starts that are p apart: put in order, they go back at least p at a time.
use Rattle.std.proofs.Common.{◌≡◌, suc, ◌<◌, Bool, true, false, cond, ◌⊎◌, List, [], ◌∷◌, length, ℤ, pos, ◌+ℤ◌, ◌-ℤ◌, ◌≤ℤ◌, refl, ap, ◌∙◌, subst, inl, inr, ⊎_elim, arith}
use lib.Signed.{le_z, lt_z}
use Rattle.std.specs.List.{AllByRecursion}
use Rattle.std.proofs.lemmas.Int.{ints}
use Rattle.std.proofs.ByRecursion.{All-weaker, All-from_get_or}
use Rattle.std.proofs.lemmas.Bool.{cond_both, and_parts}
use Rattle.field.specs.declared.window.Window.{Window}
use Rattle.theory.specs.Orders.{In, Apart, OrderOfPlay, count, enclosed, counted}
use Rattle.theory.specs.declared.span.Span.{Span}
use Rattle.theory.specs.Closed.{Outside, backward}
use Rattle.theory.proofs.Closed.{leZ_true, ltZ_true, ltZ_false, greatest_most}

pub all_both : {X : Type 0} (P Q R : X → Type 0) → ((x : X) → P x → Q x → R x) → (xs : List X) → AllByRecursion P xs → AllByRecursion Q xs → AllByRecursion R xs
all_both P Q R h [] a b = tt
all_both P Q R h (x ∷ xs) a b = (h x a.0 b.0, all_both P Q R h xs a.1 b.1)

-- ascending by at least p
abbrev pub Chain : ℤ → List ℤ → Type 0
Chain p [] = Unit {0}
Chain p (x ∷ xs) = AllByRecursion (λ y. (x +ℤ p) ≤ℤ y) xs × Chain p xs

-- each two apart
abbrev pub Spread : ℤ → List ℤ → Type 0
Spread p [] = Unit {0}
Spread p (x ∷ xs) = AllByRecursion (Apart p x) xs × Spread p xs

pub chain_back : (p : ℤ) (f : List Span) (l x : ℤ) (xs : List ℤ) → Chain p (x ∷ xs) → AllByRecursion (λ y. y ≤ℤ l) (x ∷ xs) → AllByRecursion (Outside f) (x ∷ xs) → x ≤ℤ backward p f l (length (x ∷ xs))
unfolding backward
chain_back p f l x [] c h o = greatest_most f ((l +ℤ p) -ℤ p) x (omega (arith, ints, h.0)) o.0
chain_back p f l x (y ∷ ys) c h o =
    let ih = chain_back p f l y ys c.1 h.1 o.1 in
    let b = backward p f l (length (y ∷ ys)) in
    greatest_most f (b -ℤ p) x (omega (arith, ints, c.0.0)) o.0

insert : ℤ → List ℤ → List ℤ
insert x [] = x ∷ []
insert x (y ∷ ys) = cond (lt_z x y) (x ∷ y ∷ ys) (y ∷ insert x ys)

all_insert : (P : ℤ → Type 0) (x : ℤ) (ys : List ℤ) → P x → AllByRecursion P ys → AllByRecursion P (insert x ys)
unfolding insert
all_insert P x [] h a = (h, tt)
all_insert P x (y ∷ ys) h a =
    cond_both (lt_z x y) (x ∷ y ∷ ys) (y ∷ insert x ys) (AllByRecursion P) (λ e. (h, a)) (λ e. (a.0, all_insert P x ys h a.1))

length_insert : (x : ℤ) (ys : List ℤ) → length (insert x ys) ≡ suc (length ys)
unfolding insert
length_insert x [] = refl
length_insert x (y ∷ ys) =
    let ih = length_insert x ys in
    cond_both (lt_z x y) (x ∷ y ∷ ys) (y ∷ insert x ys) (λ zs. length zs ≡ suc (length (y ∷ ys))) (λ e. refl) (λ e. omega arith)

chain_insert : (p x : ℤ) (ys : List ℤ) → pos 1 ≤ℤ p → AllByRecursion (Apart p x) ys → Chain p ys → Chain p (insert x ys)
unfolding insert
chain_insert p x [] h a c = (tt, tt)
chain_insert p x (y ∷ ys) h a c =
    cond_both
    (lt_z x y)
    (x ∷ y ∷ ys)
    (y ∷ insert x ys)
    (Chain p)
    (λ e.
    let k = ltZ_true x y e in
    let d : (x +ℤ p) ≤ℤ y = omega (arith, ints, a.0) in
    ((d, All-weaker (λ z. (y +ℤ p) ≤ℤ z) (λ z. (x +ℤ p) ≤ℤ z) (λ z w. omega (arith, ints)) ys c.0), c))
    (λ e.
    let k = ltZ_false x y e in
    let d : (y +ℤ p) ≤ℤ x = omega (arith, ints, a.0) in
    (all_insert (λ z. (y +ℤ p) ≤ℤ z) x ys d c.0, chain_insert p x ys h a.1 c.1))

sort : List ℤ → List ℤ
sort [] = []
sort (x ∷ xs) = insert x (sort xs)

all_sort : (P : ℤ → Type 0) (xs : List ℤ) → AllByRecursion P xs → AllByRecursion P (sort xs)
unfolding sort
all_sort P [] a = tt
all_sort P (x ∷ xs) a = all_insert P x (sort xs) a.0 (all_sort P xs a.1)

length_sort : (xs : List ℤ) → length (sort xs) ≡ length xs
unfolding sort
length_sort [] = refl
length_sort (x ∷ xs) = length_insert x (sort xs) ∙ ap suc (length_sort xs)

chain_sort : (p : ℤ) (xs : List ℤ) → pos 1 ≤ℤ p → Spread p xs → Chain p (sort xs)
unfolding sort
chain_sort p [] h s = tt
chain_sort p (x ∷ xs) h s = chain_insert p x (sort xs) h (all_sort (Apart p x) xs s.0) (chain_sort p xs h s.1)

-- starts p apart, outside the spans, from z to l: z is at most as many steps back from l
pub spread_back : (p : ℤ) (f : List Span) (l z : ℤ) (xs : List ℤ) → pos 1 ≤ℤ p → 0 < length xs → Spread p xs → AllByRecursion (λ y. (z ≤ℤ y) × (y ≤ℤ l)) xs → AllByRecursion (Outside f) xs → z ≤ℤ backward p f l (length xs)
spread_back p f l z xs h n s a o =
    subst
    (λ k. z ≤ℤ backward p f l k)
    (length_sort xs)
    (go (sort xs) (omega (arith, length_sort xs)) (chain_sort p xs h s) (all_sort (λ y. (z ≤ℤ y) × (y ≤ℤ l)) xs a) (all_sort (Outside f) xs o))
  where
    go : (ys : List ℤ) → 0 < length ys → Chain p ys → AllByRecursion (λ y. (z ≤ℤ y) × (y ≤ℤ l)) ys → AllByRecursion (Outside f) ys → z ≤ℤ backward p f l (length ys)
    go [] k c b q = absurd (omega arith)
    go (y ∷ ys) k c b q =
        let t = chain_back p f l y ys c (All-weaker (λ y. (z ≤ℤ y) × (y ≤ℤ l)) (λ y. y ≤ℤ l) (λ y w. w.1) (y ∷ ys) b) q in
        omega (arith, ints, b.0.0)

-- an order of play, by recursion
abbrev pub Ordered : ℤ → List Window → List ℤ → Type 0
Ordered p [] [] = Unit {0}
Ordered p [] (x ∷ xs) = ⊥
Ordered p (w ∷ ws) [] = ⊥
Ordered p (w ∷ ws) (x ∷ xs) = In w x × AllByRecursion (Apart p x) xs × Ordered p ws xs

pub from_order : (p : ℤ) (ws : List Window) (xs : List ℤ) → OrderOfPlay p ws xs → Ordered p ws xs
from_order p [] [] o = tt
from_order p [] (x ∷ xs) o = absurd (omega (arith, o.same))
from_order p (w ∷ ws) [] o = absurd (omega (arith, o.same))
from_order p (w ∷ ws) (x ∷ xs) o =
    let same' : length xs ≡ length ws = omega (arith, o.same) in (
      o.within 0 (omega arith),
      All-from_get_or (Apart p x) xs (pos 0) (λ i h. o.apart 0 (suc i) (omega arith) (omega arith)),
      from_order p ws xs (record { same = same'; within = λ i h. o.within (suc i) (omega arith); apart = λ i j h k. o.apart (suc i) (suc j) (omega arith) (omega arith) }),
    )

-- the starts of the windows that pass a test
pub taken : (Window → Bool) → List Window → List ℤ → List ℤ
taken f [] xs = []
taken f (w ∷ ws) [] = []
taken f (w ∷ ws) (x ∷ xs) = cond (f w) (x ∷ taken f ws xs) (taken f ws xs)

pub all_taken : (P : ℤ → Type 0) (f : Window → Bool) (ws : List Window) (xs : List ℤ) → AllByRecursion P xs → AllByRecursion P (taken f ws xs)
unfolding taken
all_taken P f [] xs a = tt
all_taken P f (w ∷ ws) [] a = tt
all_taken P f (w ∷ ws) (x ∷ xs) a =
    let ih = all_taken P f ws xs a.1 in
    cond_both (f w) (x ∷ taken f ws xs) (taken f ws xs) (AllByRecursion P) (λ e. (a.0, ih)) (λ e. ih)

pub length_taken : (p : ℤ) (f : Window → Bool) (ws : List Window) (xs : List ℤ) → Ordered p ws xs → length (taken f ws xs) ≡ count f ws
unfolding taken
length_taken p f [] [] o = refl
length_taken p f [] (x ∷ xs) o = absurd o
length_taken p f (w ∷ ws) [] o = absurd o
length_taken p f (w ∷ ws) (x ∷ xs) o = go (f w) (length_taken p f ws xs o.2)
  where
    go : (b : Bool) → length (taken f ws xs) ≡ count f ws → length (cond b (x ∷ taken f ws xs) (taken f ws xs)) ≡ cond b (suc (count f ws)) (count f ws)
    go true ih = ap suc ih
    go false ih = ih

pub spread_taken : (p : ℤ) (f : Window → Bool) (ws : List Window) (xs : List ℤ) → Ordered p ws xs → Spread p (taken f ws xs)
unfolding taken
spread_taken p f [] [] o = tt
spread_taken p f [] (x ∷ xs) o = absurd o
spread_taken p f (w ∷ ws) [] o = absurd o
spread_taken p f (w ∷ ws) (x ∷ xs) o =
    let ih = spread_taken p f ws xs o.2 in
    cond_both (f w) (x ∷ taken f ws xs) (taken f ws xs) (Spread p) (λ e. (all_taken (Apart p x) f ws xs o.1, ih)) (λ e. ih)

pub taken_bounds : (p r l : ℤ) (ws : List Window) (xs : List ℤ) → Ordered p ws xs → AllByRecursion (λ x. (r ≤ℤ x) × (x ≤ℤ l)) (taken (enclosed r l) ws xs)
unfolding taken
taken_bounds p r l [] [] o = tt
taken_bounds p r l [] (x ∷ xs) o = absurd o
taken_bounds p r l (w ∷ ws) [] o = absurd o
taken_bounds p r l (w ∷ ws) (x ∷ xs) o =
    let ih = taken_bounds p r l ws xs o.2 in
    let i = o.0 in
    let f = enclosed r l in
    cond_both
    (f w)
    (x ∷ taken f ws xs)
    (taken f ws xs)
    (AllByRecursion (λ x. (r ≤ℤ x) × (x ≤ℤ l)))
    (λ e.
    let k = and_parts (le_z r w.early) (le_z w.late l) e in
    let a = leZ_true r w.early k.0 in
    let b = leZ_true w.late l k.1 in
    ((omega (arith, ints), omega (arith, ints)), ih))
    (λ e. ih)

-- any two of an order's starts are the same or apart
unfoldable pub Rows : ℤ → List ℤ → ℤ → Type 0
Rows p ys x = AllByRecursion (λ y. (x ≡ y) ⊎ Apart p x y) ys

pub rows : (p : ℤ) (ws : List Window) (xs : List ℤ) → Ordered p ws xs → AllByRecursion (Rows p xs) xs
unfolding Rows
rows p [] [] o = tt
rows p [] (x ∷ xs) o = absurd o
rows p (w ∷ ws) [] o = absurd o
rows p (w ∷ ws) (x ∷ xs) o = (
  (inl refl, All-weaker (Apart p x) (λ y. (x ≡ y) ⊎ Apart p x y) (λ y a. inr a) xs o.1),
  all_both (Apart p x) (Rows p xs) (Rows p (x ∷ xs)) (λ y a b. (inr (⊎_elim inr inl a), b)) xs o.1 (rows p ws xs o.2),
)

-- the heart: if the starts of the n windows between r and l are all at least z, then z is at most n steps back from l
pub order_back : (p : ℤ) (f : List Span) (r l z : ℤ) (ws : List Window) (xs : List ℤ) → pos 1 ≤ℤ p → Ordered p ws xs → AllByRecursion (Outside f) xs → 0 < counted ws r l → AllByRecursion (λ y. z ≤ℤ y) (taken (enclosed r l) ws xs) → z ≤ℤ backward p f l (counted ws r l)
order_back p f r l z ws xs h o out n a =
    let len = length_taken p (enclosed r l) ws xs o in
    subst
    (λ k. z ≤ℤ backward p f l k)
    len
    (spread_back
    p
    f
    l
    z
    (taken (enclosed r l) ws xs)
    h
    (omega (arith, len))
    (spread_taken p (enclosed r l) ws xs o)
    (all_both (λ y. z ≤ℤ y) (λ x. (r ≤ℤ x) × (x ≤ℤ l)) (λ y. (z ≤ℤ y) × (y ≤ℤ l)) (λ y b c. (b, c.1)) (taken (enclosed r l) ws xs) a (taken_bounds p r l ws xs o))
    (all_taken (Outside f) (enclosed r l) ws xs out))
