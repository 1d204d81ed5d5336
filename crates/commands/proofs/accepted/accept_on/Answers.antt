use Rattle.std.proofs.Common.{Err, refl, subst, sym}
use Rattle.il_reader.specs.Reading.{reading}
use Rattle.commands.specs.Accepted.{GivesVerified}
use Rattle.commands.specs.Told.{Told}
use Rattle.commands.proofs.accepted.accept_on.Goals as goal

pub returns-in-Ok-Ok : goal.returns-in-Ok-Ok
returns-in-Ok-Ok c = (refl, subst (GivesVerified c.args.site (reading c.args.text.now)) c.in-Ok-Ok.field-0-is c.in-Ok-Ok.ensures)

pub returns-in-Ok-Err : goal.returns-in-Ok-Err
returns-in-Ok-Err c =
    subst (λ (told : Told). GivesVerified c.args.site (reading c.args.text.now) (Err told)) (sym c.with_site.ensures)
    (subst (GivesVerified c.args.site (reading c.args.text.now)) c.in-Ok-Err.field-0-is c.in-Ok-Err.ensures)
