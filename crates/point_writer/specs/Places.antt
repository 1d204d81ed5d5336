-- inner: what the planner's own values stand for: a place.
-- SunSpec Device Information Model Specification, device modbus maps.
use Rattle.point_writer.specs.declared.place.PointPlace.{PointPlace}
use Rattle.point_writer.specs.SetPoint as told

abbrev pub place_view : PointPlace → told.PointPlace
place_view p = record { device = p.device; addr = p.addr; factor = p.factor }
