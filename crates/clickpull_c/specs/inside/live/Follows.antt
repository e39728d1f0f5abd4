-- What a handle has after changes through a borrow of its live router.
use base.Fml.{Fml}
use denote.Follow.{follows}
use Rattle.std.specs.Borrow.{MutBor}
use Rattle.clickpull_c.specs.contracts.live.router.LiveRouter as Value
use Rattle.clickpull_c.specs.declared.live.handle.LiveHandle.{LiveHandle}
use Rattle.clickpull_c.specs.contracts.live.handle.LiveHandle as At

-- the handle with another live router
abbrev pub with_live : LiveHandle → Value.the_row.Denot → LiveHandle
with_live handle router = record { at = handle.at; alloc = handle.alloc; router = router }

-- once the borrow r ends, the handle behind h has the live router that was last written through r
abbrev pub live_handle_follows : MutBor LiveHandle → MutBor Value.the_row.Denot → Fml
live_handle_follows h r = follows At.the_row Value.the_row h.ghost_name r.ghost_name (with_live h.now)
