use Rattle.std.proofs.Common.{◌≡◌, pos, Err, sym, subst, rules}
use Rattle.std.proofs.lemmas.Int.{ints}
use Rattle.theory.specs.Theorem.{First}
use Rattle.reckoning.specs.Range.{RangeTold}
use Rattle.reckoning.proofs.Placed.{first_near, last_told, refused_turned, neg_real}
use Rattle.reckoning.proofs.Plain.{real_time}
use Rattle.reckoning.proofs.range.range.Goals as goal

pub overflow_sub-result : goal.overflow_sub-result
overflow_sub-result g c =
    let n = first_near c.args.pace _ c.args.place c.in_ok-turned.turned c.in_ok-turned.ensures in
    search (rules, ints)

pub returns-in_err-turned : goal.returns-in_err-turned
returns-in_err-turned g c =
    let ws = g.F.Field.windows c.args.field.now in
    let q = c.in_err-turned.field-0.0 in
    let i : c.from_residual-in_err-turned.result ≡ Err q = search rules in
    record { exact = subst (RangeTold c.args.pace ws c.args.place) (sym i) (refused_turned c.args.pace ws c.args.place q c.in_err-turned.ensures) }

pub returns : goal.returns
returns g c =
    let ws = g.F.Field.windows c.args.field.now in
    let x = c.in_ok-first.first in
    let y = c.in_ok-turned.turned in
    let told = c.in_ok-first.ensures in
    let back = c.in_ok-turned.ensures in
    let m = first_near c.args.pace ws c.args.place x told in
    let n = first_near c.args.pace _ c.args.place y back in
    record {
      exact = (
        told.0,
        (
          subst (First (pos c.args.pace) ws c.args.place) (sym (real_time x m.0 m.1)) told.1,
          last_told c.args.pace ws c.args.place y _ (neg_real y n.0 n.1) back,
        ),
      );
    }
