-- What each device of a site file must say of itself: the keys `maker`, `type` and `serial` of its entries `device`. What they are
-- compared with are the points Mn, Md and SN of the common model, strings of 16 registers (SunSpec Device Information Model
-- Specification, model 1); the keys are this project's.
use Rattle.std.specs.Prelude.{ℕ, ◌-◌, nat_eq, nat_le, Bool, false, not, ◌&&◌, ◌||◌, List, [], ◌∷◌, ◌++◌, length, slice_get, Option, None, Some, option_map, Result, Ok, Err, codes, if◌then◌else◌}
use Rattle.std.specs.List.{list_all}
use Rattle.std.specs.Option.{ok_or, option_map_or}
use Rattle.toml.specs.Data.{Data, table, Items, no_items, item, get, as_str}
use Rattle.toml.specs.Parse.{parse_document}
use Rattle.point_types.specs.Value.{◌>>=◌}
use Rattle.file_keys.specs.Keys.{section_at}
use Rattle.gateway.specs.served.ServedImage.{text_words}
use Rattle.service_requests.specs.declared.identity.Identity.{Identity}
use Rattle.service_texts.specs.declared.identities.IdentityFault.{IdentityFault}
use Rattle.service_texts.specs.declared.identities.IdentityFault.TheVariants as fault
use Rattle.service_texts.specs.declared.identities.IdentityKey.{IdentityKey}
use Rattle.service_texts.specs.declared.identities.IdentityKey.TheVariants as key

abbrev pub key_word : IdentityKey → List ℕ
key_word key.Maker = codes "maker"
key_word key.Type = codes "type"
key_word key.Serial = codes "serial"

-- ---- which texts are taken

-- a byte of no control character of ASCII (RFC 20)
abbrev pub is_plain : ℕ → Bool
is_plain byte = nat_le 32 byte && not (nat_eq byte 127)

abbrev pub is_blank : Option ℕ → Bool
is_blank byte = option_map_or (λ b. nat_eq b 32) byte false

-- whether the first or the last byte is a blank
abbrev pub has_outer_blank : List ℕ → Bool
has_outer_blank text = is_blank (slice_get text 0) || is_blank (slice_get text (length text - 1))

abbrev pub has_label_length : List ℕ → Bool
has_label_length text = nat_le 1 (length text) && nat_le (length text) 32

-- none of its bytes is of a control character, and none at its ends is a blank
abbrev pub is_plain_text : List ℕ → Bool
is_plain_text text = list_all is_plain text && not (has_outer_blank text)

-- 1 to 32 bytes of such a text
abbrev pub is_label : List ℕ → Bool
is_label text = has_label_length text && is_plain_text text

-- such a text as registers
abbrev pub label_of : List ℕ → Option (List ℕ)
label_of text = if is_label text then Some (text_words 16 text) else None

-- ---- what stands at the keys

abbrev pub label_said : ℕ → IdentityKey → Data → Result (Option (List ℕ)) IdentityFault
label_said n k said = ok_or (as_str said) (fault.NoText n k) >>= λ text. ok_or (option_map Some (label_of text)) (fault.BadText n k)

-- the text at a key of the device with this number; without the key nothing is wanted
abbrev pub label_at : ℕ → IdentityKey → Data → Result (Option (List ℕ)) IdentityFault
label_at n k entry = option_map_or (label_said n k) (get (key_word k) entry) (Ok None)

-- one that must say nothing has no identity
abbrev pub identity_of : (maker model serial : Option (List ℕ)) → Option Identity
identity_of None None None = None
identity_of maker model serial = Some (record { maker = maker; model = model; serial = serial })

-- what the device with this number must say
abbrev pub identity_at : ℕ → Data → Result (Option Identity) IdentityFault
identity_at n entry =
    label_at n key.Maker entry >>= λ maker.
    label_at n key.Type entry >>= λ model.
    label_at n key.Serial entry >>= λ serial.
    Ok (identity_of maker model serial)

-- of the devices in order, after those before them, or what is wrong with the first one
abbrev pub identities_after : List (Option Identity) → Items → Result (List (Option Identity)) IdentityFault
identities_after seen no_items = Ok seen
identities_after seen (item entry entries) = identity_at (length seen) entry >>= λ own. identities_after (seen ++ own ∷ []) entries

-- the same of a file
abbrev pub identities_listed : Data → Result (List (Option Identity)) IdentityFault
identities_listed doc = ok_or (section_at (codes "device") doc) fault.NotToml >>= identities_after []

-- the same of a text
abbrev pub identities_in : List ℕ → Result (List (Option Identity)) IdentityFault
identities_in text = ok_or (option_map table (parse_document text)) fault.NotToml >>= identities_listed
