use Rattle.std.proofs.Common.{◌≡◌, ◌+◌, List, ℕ, take, drop, Ok, sym, ◌∙◌, ap, subst, arith, length-drop, length-take}
use Rattle.std.proofs.lemmas.List.{drop-drop}
use Rattle.modbus_frame.specs.Exchange.{FeedsUnfed}
use Rattle.modbus_frame.specs.Framing.{Feeds}
use Rattle.modbus_frame.specs.Reading.{Reading}
use Rattle.modbus_frame.proofs.Receiving.{without_fault, feeds_unfed}
use Rattle.modbus_frame.proofs.exchange.FrameReader.feed.Goals as goal

pub returns : goal.returns
returns c =
    let r = c.self.inside in
    let piece : List ℕ = drop r.start (take r.end r.buffer) in
    let given : c.split_at-2.result.1.now ≡ piece = c.split_at-2.ensures.back ∙ ap (drop r.start) c.split_at.ensures.front in
    let none : r.framer.fault ≡ _ = ap (λ (x : Reading). (x.held).fault) c.self.view_is ∙ c.requires in
    let P : List ℕ → Type 0 = λ l. Feeds r.framer l (Ok c.in_ok-fed.fed) c.feed.new.self in
    let feeds = without_fault r.framer.fault r.framer piece _ _ none (subst P given c.in_ok-fed.ensures) in
    let Q : Reading → Type 0 = λ old. FeedsUnfed old (Ok c.in_ok-fed.fed.frame) (record { held = c.feed.new.self; unfed = drop (r.start + c.in_ok-fed.fed.used) (take r.end r.buffer) }) in
    subst Q c.self.view_is (feeds_unfed r.framer piece c.in_ok-fed.fed.used c.in_ok-fed.fed.frame c.feed.new.self _ feeds (sym (drop-drop c.in_ok-fed.fed.used r.start (take r.end r.buffer))) (omega (arith, c.self.invariant.1, length-drop r.start (take r.end r.buffer), length-take r.end r.buffer)))
