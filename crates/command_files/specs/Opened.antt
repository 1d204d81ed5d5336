-- A poller over a link that was opened for it, and what it leaves of that link.
-- MODBUS Messaging on TCP/IP Implementation Guide, section 4.2.
use Rattle.std.specs.Prelude.{[], None}
use Rattle.modbus_frame.specs.Link.{LinkState}
use Rattle.gateway.specs.poller.Polling.{Polling}

-- nothing was asked yet
abbrev pub opened : LinkState → Polling
opened a = record { ahead = []; coming = a.coming; sent = a.sent; failures = a.failures; calls = a.calls; id = 0; fault = None }

-- the link after all that was asked
abbrev pub left_of : Polling → LinkState
left_of q = record { coming = q.coming; sent = q.sent; failures = q.failures; calls = q.calls }
