-- What a handle has after changes through a borrow of its router.
use base.Fml.{Fml}
use denote.Follow.{follows}
use Rattle.std.specs.Borrow.{MutBor}
use Rattle.clk_router.specs.contracts.counting.CountingRouter as Router
use Rattle.clickpull_c.specs.declared.handle.Handle.{Handle}
use Rattle.clickpull_c.specs.contracts.handle.Handle as At

-- the handle with another router
abbrev pub with_router : Handle → Router.the_row.Denot → Handle
with_router handle router = record { at = handle.at; alloc = handle.alloc; router = router }

-- once the borrow r ends, the handle behind h has the router that was last written through r
abbrev pub handle_follows : MutBor Handle → MutBor Router.the_row.Denot → Fml
handle_follows h r = follows At.the_row Router.the_row h.ghost_name r.ghost_name (with_router h.now)
