-- inner: how the logic stores what is written, and the lines inside parentheses.
-- IEC 61131-3 edition 2, 3.2.2 (parentheses).
use Rattle.std.proofs.Common.{◌≡◌, ap}
use Rattle.std.specs.Coded.{Coded, coded_ℕ, coded_bool, coded_option}
use base.Stored.{Gv, gnil, gnum, gcons}
use Rattle.point_types.specs.contracts.il_type.IlType as kind
use Rattle.point_types.specs.contracts.operator.Operator as operator
use Rattle.il_reader.specs.contracts.tree.Operand as operand
use Rattle.il_reader.specs.Written.{Written, Load, Apply, Defer, Limit, Select, Invert, Absolute, Convert, Inner, Close, Then}

abbrev head : Gv → Gv
head gnil = gnil
head (gnum n) = gnil
head (gcons a b) = a

abbrev tail : Gv → Gv
tail gnil = gnil
tail (gnum n) = gnil
tail (gcons a b) = b

abbrev mutual
  pub written_code : Written → Gv
  written_code (Load negated x) = gcons (gnum 0) (gcons (coded_bool.code negated) (operand.the_row.coded.code x))
  written_code (Apply o negated x) = gcons (gnum 1) (gcons (operator.the_row.coded.code o) (gcons (coded_bool.code negated) (operand.the_row.coded.code x)))
  written_code (Defer o negated x inner) =
      gcons (gnum 2) (gcons (operator.the_row.coded.code o) (gcons (coded_bool.code negated) (gcons ((coded_option operand.the_row.coded).code x) (inner_code inner))))
  written_code (Limit x y) = gcons (gnum 3) (gcons (operand.the_row.coded.code x) (operand.the_row.coded.code y))
  written_code (Select x y) = gcons (gnum 4) (gcons (operand.the_row.coded.code x) (operand.the_row.coded.code y))
  written_code Invert = gcons (gnum 5) gnil
  written_code Absolute = gcons (gnum 6) gnil
  written_code (Convert j k) = gcons (gnum 7) (gcons (kind.the_row.coded.code j) (kind.the_row.coded.code k))

  pub inner_code : Inner → Gv
  inner_code Close = gnil
  inner_code (Then l x rest) = gcons (coded_ℕ.code l) (gcons (written_code x) (inner_code rest))

mutual
  pub written_inj : (x y : Written) → written_code x ≡ written_code y → x ≡ y
  written_inj (Load a b) (Load c d) p = λ i. Load (coded_bool.inj a c (ap (λ g. head (tail g)) p) i) (operand.the_row.coded.inj b d (ap (λ g. tail (tail g)) p) i)
  written_inj (Load a b) _ p = absurd (cc)
  written_inj (Apply a b c) (Apply d e f) p =
      λ i. Apply (operator.the_row.coded.inj a d (ap (λ g. head (tail g)) p) i) (coded_bool.inj b e (ap (λ g. head (tail (tail g))) p) i) (operand.the_row.coded.inj c f (ap (λ g. tail (tail (tail g))) p) i)
  written_inj (Apply a b c) _ p = absurd (cc)
  written_inj (Defer a b c d) (Defer e f g h) p =
      λ i. Defer (operator.the_row.coded.inj a e (ap (λ g. head (tail g)) p) i) (coded_bool.inj b f (ap (λ g. head (tail (tail g))) p) i) ((coded_option operand.the_row.coded).inj c g (ap (λ g. head (tail (tail (tail g)))) p) i) (inner_inj d h (ap (λ g. tail (tail (tail (tail g)))) p) i)
  written_inj (Defer a b c d) _ p = absurd (cc)
  written_inj (Limit a b) (Limit c d) p = λ i. Limit (operand.the_row.coded.inj a c (ap (λ g. head (tail g)) p) i) (operand.the_row.coded.inj b d (ap (λ g. tail (tail g)) p) i)
  written_inj (Limit a b) _ p = absurd (cc)
  written_inj (Select a b) (Select c d) p = λ i. Select (operand.the_row.coded.inj a c (ap (λ g. head (tail g)) p) i) (operand.the_row.coded.inj b d (ap (λ g. tail (tail g)) p) i)
  written_inj (Select a b) _ p = absurd (cc)
  written_inj Invert Invert p = λ i. Invert
  written_inj Invert _ p = absurd (cc)
  written_inj Absolute Absolute p = λ i. Absolute
  written_inj Absolute _ p = absurd (cc)
  written_inj (Convert a b) (Convert c d) p = λ i. Convert (kind.the_row.coded.inj a c (ap (λ g. head (tail g)) p) i) (kind.the_row.coded.inj b d (ap (λ g. tail (tail g)) p) i)
  written_inj (Convert a b) _ p = absurd (cc)

  pub inner_inj : (x y : Inner) → inner_code x ≡ inner_code y → x ≡ y
  inner_inj Close Close p = λ i. Close
  inner_inj (Then a b c) (Then d e f) p =
      λ i. Then (coded_ℕ.inj a d (ap head p) i) (written_inj b e (ap (λ g. head (tail g)) p) i) (inner_inj c f (ap (λ g. tail (tail g)) p) i)
  inner_inj Close (Then a b c) p = absurd (cc)
  inner_inj (Then a b c) Close p = absurd (cc)

abbrev pub coded_written : Coded Written
coded_written = record { code = written_code; inj = written_inj }

abbrev pub coded_inner : Coded Inner
coded_inner = record { code = inner_code; inj = inner_inj }
