-- What the method finds and that there is an order of play are the same.
use Rattle.std.proofs.Common.{◌≡◌, ℕ, true, leb, [], pos, ◌≤ℤ◌, refl, arith}
use Rattle.std.proofs.lemmas.Int.{ints}
use Rattle.std.proofs.lemmas.Bool.{and_parts, leb-true}
use Rattle.theory.specs.Method.{forbidden, steps, earlies}
use Rattle.theory.proofs.Deciding.{possible_some, some_possible}
use Rattle.sheet.specs.Content.{Content, windows_of, paced, playable, Playable}

from_one : (p : ℕ) → paced p ≡ true → pos 1 ≤ℤ pos p
from_one p h = let a = leb-true 1 p (and_parts (leb 1 p) (leb p 3600) h).0 in omega (arith, ints)

pub plays : (c : Content) → paced c.pace ≡ true → playable c.rows c.pace ≡ true → Playable c
plays c h k = some_possible (pos c.pace) (windows_of c.rows) (from_one c.pace h) k

pub decided : (c : Content) → paced c.pace ≡ true → Playable c → playable c.rows c.pace ≡ true
decided c h o = possible_some (pos c.pace) (windows_of c.rows) (from_one c.pace h) o

pub none_play : (p : ℕ) → playable [] p ≡ true
unfolding forbidden steps earlies
none_play p = refl
