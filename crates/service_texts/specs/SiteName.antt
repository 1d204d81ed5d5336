-- What a site is called: the key `name` of the section `gateway` of a site file. No standard says it; site files are this project's.
use Rattle.std.specs.Prelude.{ℕ, Bool, ◌&&◌, nat_le, List, length, Option, None, Some, option_map, Result, Ok, Err, codes, if◌then◌else◌}
use Rattle.std.specs.Option.{ok_or, option_map_or}
use Rattle.toml.specs.Data.{Data, table, get, as_str}
use Rattle.toml.specs.Parse.{parse_document}
use Rattle.point_types.specs.Value.{◌>>=◌}
use Rattle.service_texts.specs.Identities.{is_plain_text}
use Rattle.service_texts.specs.declared.naming.SiteNameFault.{SiteNameFault}
use Rattle.service_texts.specs.declared.naming.SiteNameFault.TheVariants as fault

-- 1 to 64 bytes, none of a control character, and none at the ends a blank
abbrev pub is_name : List ℕ → Bool
is_name text = (nat_le 1 (length text) && nat_le (length text) 64) && is_plain_text text

abbrev pub name_said : Data → Result (Option (List ℕ)) SiteNameFault
name_said said = ok_or (as_str said) fault.NoText >>= λ text. if is_name text then Ok (Some text) else Err fault.BadText

-- without the key it has no name
abbrev pub name_at : Data → Result (Option (List ℕ)) SiteNameFault
name_at gateway = option_map_or name_said (get (codes "name") gateway) (Ok None)

-- of a file
abbrev pub name_listed : Data → Result (Option (List ℕ)) SiteNameFault
name_listed doc = ok_or (get (codes "gateway") doc) fault.NotToml >>= name_at

-- the same of a text
abbrev pub name_in : List ℕ → Result (Option (List ℕ)) SiteNameFault
name_in text = ok_or (option_map table (parse_document text)) fault.NotToml >>= name_listed
