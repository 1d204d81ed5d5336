-- Worked trees: what they stand for, and which rule they break first.
-- TOML 1.0; no standard says what a site file is: it is this project's.
use Rattle.std.specs.Prelude.{◌≡◌, ℕ, ℤ, pos, neg_ℤ, true, false, List, [], ◌∷◌, None, Some, Ok, Err, refl, codes}
use Rattle.toml.specs.Data.{Data, Items, no_items, item, Members, no_members, member, string, integer, boolean, array, table}
use Rattle.point_types.specs.declared.il_type.IlType.TheVariants as il
use Rattle.point_types.specs.declared.kind.Kind.TheVariants as kinds
use Rattle.site_model.specs.Devices.{device_of}
use Rattle.file_keys.specs.Keys.{is_over}
use Rattle.site_model.specs.File.{site_of}
use Rattle.site_model.specs.Serving.{can_be_encoded}
use Rattle.site_model.specs.Tagging.{bit_of, has_range, is_fitting, is_lapsing, lapse_of}
use Rattle.site_model.specs.declared.access.Access.TheVariants as access
use Rattle.site_model.specs.declared.device.WriteFunction.TheVariants as write
use Rattle.site_model.specs.declared.fault.SiteFault.TheVariants as fault

abbrev pub gateway : ℤ → Items → Data
gateway unit models = table (member (codes "gateway") (table (member (codes "models") (array models) (member (codes "unit") (integer unit) no_members))) no_members)

pub no_gateway : site_of [] (table no_members) ≡ Err fault.MissingKey
no_gateway = refl

pub no_number : site_of [] (gateway (pos 1) (item (boolean true) no_items)) ≡ Err fault.MissingKey
no_number = refl

pub no_definition : site_of [] (gateway (pos 256) (item (integer (pos 1)) no_items)) ≡ Err fault.UnknownModel
no_definition = refl

pub no_models : site_of [] (gateway (pos 1) no_items) ≡ Err fault.BadRange
no_models = refl

pub one_too_many : is_over 1 (array (item (integer (pos 1)) (item (integer (pos 1)) no_items))) ≡ true
one_too_many = refl

abbrev pub device : List ℕ → ℤ → Members → Data
device name unit more = table (member (codes "name") (string name) (member (codes "unit") (integer unit) more))

pub usual_device : device_of [] (device (codes "inv1") (pos 7) no_members) ≡ Ok (record { name = codes "inv1"; unit = 7; base = None; write = write.Multiple; rewrite = 0 })
usual_device = refl

pub no_function : device_of [] (device (codes "inv1") (pos 7) (member (codes "write") (integer (pos 5)) no_members)) ≡ Err fault.BadRange
no_function = refl

pub same_unit : device_of (record { name = codes "inv1"; unit = 7; base = None; write = write.Single; rewrite = 0 } ∷ []) (device (codes "inv2") (pos 7) no_members) ≡ Err fault.Duplicate
same_unit = refl

pub hour_between_writes : device_of [] (device (codes "inv1") (pos 7) (member (codes "rewrite") (integer (pos 3600)) no_members)) ≡ Ok (record { name = codes "inv1"; unit = 7; base = None; write = write.Multiple; rewrite = 3600 })
hour_between_writes = refl

pub longer_between_writes : device_of [] (device (codes "inv1") (pos 7) (member (codes "rewrite") (integer (pos 3601)) no_members)) ≡ Err fault.BadRange
longer_between_writes = refl

pub lapses_in_a_day : lapse_of (Some (pos 86400)) ≡ Some (Some 86400)
lapses_in_a_day = refl

pub lapses_at_once : lapse_of (Some (pos 0)) ≡ None
lapses_at_once = refl

pub lapses_to_nothing : is_lapsing access.Setting None (Some (pos 60)) ≡ false
lapses_to_nothing = refl

pub never_lapses : is_lapsing access.Setting None None ≡ true
never_lapses = refl

pub hidden_low_end : has_range (Some il.Int) (neg_ℤ (pos 32769)) (pos 100) (pos 50) ≡ false
hidden_low_end = refl

pub top_bit : bit_of kinds.Bitfield32 (Some (pos 31)) ≡ None
top_bit = refl

pub unimplemented : can_be_encoded kinds.Uint16 (pos 65535) ≡ false
unimplemented = refl

pub fits_what_is_written : is_fitting access.Output (Some (codes "down")) ≡ true
fits_what_is_written = refl

pub fits_nothing_read : is_fitting access.Input (Some (codes "down")) ≡ false
fits_nothing_read = refl

pub fits_one_way : is_fitting access.Output (Some (codes "near")) ≡ false
fits_one_way = refl
