-- `of_parts` moves two fields, and what they own goes with them.
use mathlib.Core.Path.{refl}
use prog.Wp.{Tables}
use contract.Running.{tables, tables_of}
use denote.Triple.Spec.{triple_of}
use denote.Triple.Table.{entered}
use Rattle.clk_inlet.specs.contracts.inlet.Inlet as Value
use Rattle.clk_inlet.proofs.inlet.Inlet.TheLaws as value
use Rattle.clickpull_c.proofs.Handles.{Moves}
use Rattle.clickpull_c.specs.contracts.parts.BoxParts as BoxParts
use Rattle.std_heap.specs.contracts.Global as Heap
use Rattle.std_heap.specs.contracts.GlobalAllocator.TheImpl.{ghosts}
use Rattle.clickpull_c.specs.contracts.inlets.handle.InletHandle as Handle
use Rattle.clickpull_c.specs.contracts.inlets.handle.InletHandle.of_parts as F
use Rattle.clickpull_c.specs.contracts.inlets.handle.InletHandle.of_parts.Key.{name as #self}
use Rattle.clickpull_c.proofs.inlets.handle.InletHandle.of_parts.Statement as stated
use Rattle.clickpull_c.proofs.inlets.handle.InletHandle.of_parts.Code as code

pub of_parts_spec : {M : Type 1} → stated.statement M
unfolding tables_of
of_parts_spec 𝓤 𝓛 𝓜 𝓡 wired =
    let 𝓣 : Tables 𝓤 𝓛.H = tables_of 𝓤 𝓛.H 𝓜 (tables 𝓤 𝓛.H 𝓜 𝓡 𝓡.env) in
    entered 𝓤 𝓛.H (triple_of 𝓛 F.signature (F.spec 𝓛 𝓜.mem 𝓡.returns)) 𝓣.C 𝓣.Λ #self code.function (code.unfolded 𝓤 𝓛.H 𝓜 𝓡 wired)
    (Moves Value.the_row value.the_row_laws (BoxParts.the_row Value.the_row Heap.the_row ghosts) Handle.the_row (λ p. record { ptr = p.ptr; alloc = p.alloc; value = p.value }) (λ d vs. refl)
    (λ v. record { at = v.ptr; alloc = v.alloc; inlet = v.value }) (λ v vs. refl) Value.the_row.Denot (λ p. p.value) (λ h. h.inlet) (λ d. refl) (BoxParts.the_type Value.the_row Heap.the_row ghosts).name Handle.the_type.name 𝓛 𝓣)
