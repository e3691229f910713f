use Rattle.std.proofs.Common.{◌≡◌, ℕ, ◌<◌, length, drop, Ok, Err, Result, sym, ap, ◌∙◌, arith, rules}
use Rattle.std.proofs.lemmas.List.{drop_all, take_rest}
use Rattle.roll.specs.Records.{Said, said, told, parsed}
use Rattle.roll.proofs.Following.{read_none, read_here, stop_here}
use Rattle.roll.proofs.records.Records.read_at.Goals as goal

pub returns-then-at-self-clause-told : goal.returns-then-at-self-clause-told
returns-then-at-self-clause-told c =
    let roll = c.args.self.now.roll.now in
    read_none c.args.at.turn c.args.at.place (drop c.args.at.place roll) (drop_all c.args.at.place roll (omega arith))

pub returns-in_err-record-clause-told : goal.returns-in_err-record-clause-told
returns-in_err-record-clause-told c =
    let roll = c.args.self.now.roll.now in
    let inside : c.args.at.place < length roll = omega (arith, c.requires.inside) in
    let p = c.read.ensures ∙ ap parsed (take_rest roll c.args.at.place) in
    let s = λ (n : ℕ) (e : ◌≡◌ {A = Result Said ℕ} (Err n) (parsed (drop c.args.at.place roll))). stop_here roll c.args.at.turn c.args.at.place inside n e in
    search (rules, s)

pub returns-clause-told : goal.returns-clause-told
returns-clause-told c =
    let roll = c.args.self.now.roll.now in
    let inside : c.args.at.place < length roll = omega (arith, c.requires.inside) in
    let is : c.read.result ≡ Ok c.in_ok-record.record = search rules in
    let p : ◌≡◌ {A = Result Said ℕ} (Ok (said c.in_ok-record.record)) (parsed (drop c.args.at.place roll)) = ap told (sym is) ∙ c.read.ensures ∙ ap parsed (take_rest roll c.args.at.place) in
    read_here roll c.args.at.turn c.args.at.place inside c.from.result (said c.in_ok-record.record) c.from.ensures p
