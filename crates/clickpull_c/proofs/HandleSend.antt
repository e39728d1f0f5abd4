-- A handle may go to another thread where what it holds may.
use mathlib.Core.List.{List, [], ◌∷◌}
use Prim.Native.Nat.{ℕ}
use mir.Syntax.{Sym}
use mir.Raw.{raw}
use base.Fml.{Fml, Lft}
use base.Stored.{Coded}
use denote.Exit.{hidden, under}
use denote.Memory.{lone}
use denote.RattleType.{RattleType}
use denote.RawPtr.{Ptr}
use denote.Struct.Field.{Field, RawPtr-field, rows}
use denote.Struct.Values.{intos}
use denote.Struct.Struct.{exits_of}
use denote.Struct.Owning.{Owning, row}
use denote.Param.Send.{IsSend, owning_send, sendable}
use Rattle.std.proofs.Crossing as heap
use Rattle.std.specs.Box.Ownership.{box_owns}
use Rattle.std.specs.Global.{Global}
use Rattle.std_alloc.proofs.SendSync.{lies}
use Rattle.std_heap.specs.contracts.Global as Heap
use Rattle.std_heap.specs.contracts.GlobalAllocator.TheImpl.{ghosts}
use Rattle.std_heap.proofs.Global.TheSendSync as global

module _ (R : RattleType) (s : IsSend R) (ν : Sym) (V : Type 0) (at : V → Ptr) (alloc : V → Global) (value : V → R.Denot) (coded : Coded V) (shr : V → ℕ → ℕ → Lft → Fml) where
  abbrev two : List Field
  two = RawPtr-field ∷ Heap.the_field ∷ []

  abbrev handle : Owning
  handle = record {
    name = ν;
    args = [];
    types = [];
    parts = two;
    D = V;
    as_values = λ d. (at d, (alloc d, tt));
    coded = coded;
    heap = λ d. box_owns (ghosts.dealloc_token (alloc d)) R (at d) (value d);
    exit = λ k. hidden (under (λ d. intos two (at d, (alloc d, tt))) (exits_of k (rows two)));
    shr_at = shr;
  }

  pub handle_send : IsSend (row handle)
  handle_send = owning_send handle (search sendable, (global.the_field_send, tt)) (λ d. (lies R s (at d) (value d), heap.frees.frees (alloc d) (raw (lone R.mir)) (at d))) (λ k x w. tt)
