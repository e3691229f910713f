use Rattle.std.proofs.Common.{Ok, Err, refl}
use Rattle.sheet.proofs.Alone.{one_book}
use Rattle.sheet.proofs.Asking.{field_told}
use Rattle.sheet.proofs.Refusing.{said_alone}
use Rattle.sheet.proofs.sheet.Sheet.serve.Goals as goal

pub returns-in-Make : goal.returns-in-Make
returns-in-Make g c = record { law = rw c.in-Make.is c.perform.ensures.law; alone = one_book }

pub returns-in_ok-range-in-Ask : goal.returns-in_ok-range-in-Ask
returns-in_ok-range-in-Ask g c =
    let told = field_told (g.F.Field.windows c.in-Ask.field.now) c.in-Ask.pace c.in-Ask.place (Ok c.in_ok-range-in-Ask.field-0) _ c.in_ok-range-in-Ask.ensures.exact refl in
    record { law = rw c.in-Ask.is (told, refl, refl, refl); alone = one_book }

pub returns-in_err-range-in-Ask : goal.returns-in_err-range-in-Ask
returns-in_err-range-in-Ask g c =
    let q = c.in_err-range-in-Ask.field-0.0 in
    let told = field_told (g.F.Field.windows c.in-Ask.field.now) c.in-Ask.pace c.in-Ask.place (Err q) _ c.in_err-range-in-Ask.ensures.exact (said_alone c.from_residual.result q c.from_residual.ensures.1) in
    record { law = rw c.in-Ask.is (told, refl, refl, refl); alone = one_book }
