-- What goes with what is had.
use Rattle.std.proofs.Common.{◌≡◌, ℕ, Bool, true, List, Option, None, Some, refl}
use Rattle.std.specs.Prelude.{nat_eq}
use Rattle.std.proofs.lemmas.Bool.{eqb-true}
use Rattle.site_model.specs.Readings.{known_at}
use Rattle.service.specs.declared.held_writes.HeldWrite.{HeldWrite}
use Rattle.service.specs.declared.held_writes.HeldWrites.{HeldWrites}
use Rattle.service.specs.Having.{Has}
use Rattle.service.specs.Pairing.{IsHadIf, IsHadOver, is_had_if, is_had_over}

had_over : (held : HeldWrites) (number output : ℕ) (o : Option HeldWrite) → known_at held.writes.items output ≡ o → is_had_over held.writes.items number output ≡ true → IsHadOver (Has held) number output
had_over held number output None own is = absurd (cc)
had_over held number output (Some write) own is = record { write = write; has = record { is = own }; over = eqb-true write.number number (by own is) }
  where
    by : known_at held.writes.items output ≡ Some write → is_had_over held.writes.items number output ≡ true → nat_eq write.number number ≡ true
    by at had = cc

pub had_if : (held : HeldWrites) (number : ℕ) (o : Option ℕ) → is_had_if held.writes.items number o ≡ true → IsHadIf (Has held) number o
had_if held number None is = tt
had_if held number (Some output) is = had_over held number output (known_at held.writes.items output) refl is
