use Rattle.std.proofs.Common.{List, ℕ, drop, Ok, subst, sym}
use Rattle.std.proofs.lemmas.List.{drop-drop}
use Rattle.modbus_frame.specs.Framing.{Feeds}
use Rattle.modbus_frame.proofs.Receiving.{without_fault}
use Rattle.service_requests.proofs.Heard.{feeds_next}
use Rattle.service_requests.proofs.pending_request.next_frame.Goals as goal

pub returns-in-Ok-clause-feeds : goal.returns-in-Ok-clause-feeds
returns-in-Ok-clause-feeds c =
    let held = c.args.framer.now in
    let piece : List ℕ = drop c.args.used.now c.args.bytes.now in
    let P : List ℕ → Type 0 = λ l. Feeds held l (Ok c.in-Ok.fed) c.feed.new.self in
    let feeds = without_fault held.fault held piece _ _ c.requires.good (subst P c.split_at.ensures.back c.in-Ok.ensures) in
    feeds_next held piece c.in-Ok.fed.used c.in-Ok.fed.frame c.feed.new.self _ feeds (sym (drop-drop c.in-Ok.fed.used c.args.used.now c.args.bytes.now))
