-- The register for which a client's write is refused (Modbus Application Protocol V1.1b3, sections 6.6, 6.12 and 7): a write has
-- whole `set` points, or nothing of it is done.
use Rattle.std.specs.Prelude.{◌≡◌, ℕ, ◌+◌, ◌<◌, ◌≤◌, nat_le, nat_lt, Bool, ◌&&◌, true, false, List, length, map, find, is_some, Option, Some, None, option_map, MatchOption}
use Rattle.std.specs.Option.{option_map_or}
use Rattle.modbus_frame.specs.declared.message.Request.{Request}
use Rattle.modbus_frame.specs.declared.message.Request.TheVariants.{Read, WriteOne, WriteMany}
use Rattle.site_model.specs.declared.site.Site.{Site}
use Rattle.site_model.specs.declared.tag.SiteTag.{SiteTag}
use Rattle.gateway.specs.event_core.SiteRun.{setting_of}
use Rattle.gateway.specs.served.Points.{own_points}
use Rattle.served_rows.specs.declared.row.MapRow.{MapRow}
use Rattle.served_rows.specs.declared.refused.RefusedRegister.{RefusedRegister}
use Rattle.served_rows.specs.declared.refused.WriteSpan.{WriteSpan}
use Rattle.served_rows.specs.Rows.{address_of, addresses_from, after_point, point_of, subject_of, subjects}

-- the registers that a request writes
abbrev pub span_of : Request → Option WriteSpan
span_of (Read addr qty) = None
span_of (WriteOne addr value) = Some (record { first = addr; end = addr + 1 })
span_of (WriteMany addr words) = Some (record { first = addr; end = addr + length words })

-- a point has a register
abbrev pub has : ℕ → MapRow → Bool
has register row = nat_le row.address register && nat_lt register (after_point row.address row.point)

-- the point that has a register
abbrev pub row_at : List MapRow → ℕ → Option MapRow
row_at rows register = find (has register) rows

-- a write may write a point: it is a `set` tag's, and the write has all registers of it
abbrev pub may_write_point : List SiteTag → WriteSpan → MapRow → Bool
may_write_point tags span row = is_some (setting_of tags row.point) && (nat_le span.first row.address && nat_le (after_point row.address row.point) span.end)

-- a write may write a register: it may write the point that has it
abbrev pub may_write : List SiteTag → List MapRow → WriteSpan → ℕ → Bool
may_write tags rows span register = option_map_or (may_write_point tags span) (row_at rows register) false

-- the write may write each of its registers
abbrev pub MayWriteAll : List SiteTag → List MapRow → WriteSpan → Type 0
MayWriteAll tags rows span = (register : ℕ) → span.first ≤ register → register < span.end → may_write tags rows span register ≡ true

-- This is the first of its registers that it may not write, and what lies there.
pub record IsFirstRefused (tags : List SiteTag) (rows : List MapRow) (span : WriteSpan) (refused : RefusedRegister) : Type 0 where
  pub from : span.first ≤ refused.address
  pub to : refused.address < span.end
  pub wrong : may_write tags rows span refused.address ≡ false
  pub before : (register : ℕ) → span.first ≤ register → register < refused.address → may_write tags rows span register ≡ true
  pub there : refused.subject ≡ option_map subject_of (row_at rows refused.address)

-- a read is refused for no register, a write for the first that it may not write, where there is one
abbrev pub IsRefusedIn : List SiteTag → List MapRow → Option WriteSpan → Option RefusedRegister → Type 0
IsRefusedIn tags rows None found = found ≡ None
IsRefusedIn tags rows (Some span) found = MatchOption found (MayWriteAll tags rows span) (IsFirstRefused tags rows span)

-- these are the points of the gateway's own map, with their addresses and what they are of
pub record AreRowsOf (site : Site) (rows : List MapRow) : Type 0 where
  pub own : map point_of rows ≡ own_points site
  pub named : map subject_of rows ≡ subjects site
  pub placed : map address_of rows ≡ addresses_from site.base (own_points site)

-- the register for which a request is refused that comes to the gateway of a site
abbrev pub IsRefusedAt : Site → Request → Option RefusedRegister → Type 0
IsRefusedAt site request found = (rows : List MapRow) × AreRowsOf site rows × IsRefusedIn site.tags rows (span_of request) found
