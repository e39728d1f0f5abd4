-- `get_mut` lends what the handle holds, and the handle follows it.
use mathlib.Core.Path.{refl}
use prog.Wp.{Tables}
use contract.Running.{tables, tables_of}
use denote.Memory.{lone}
use denote.Triple.Spec.{triple_of}
use denote.Triple.Table.{entered}
use Rattle.clickpull_c.specs.contracts.live.router.LiveRouter as Value
use Rattle.clickpull_c.proofs.live.router.LiveRouter.TheLaws as value
use Rattle.clickpull_c.proofs.HandleLends.{Lends}
use Rattle.clickpull_c.specs.contracts.live.handle.LiveHandle as Handle
use Rattle.clickpull_c.specs.inside.live.Follows.{with_live}
use Rattle.clickpull_c.specs.contracts.live.handle.LiveHandle.get_mut as F
use Rattle.clickpull_c.specs.contracts.live.handle.LiveHandle.get_mut.Key.{name as #self}
use Rattle.clickpull_c.proofs.live.handle.LiveHandle.get_mut.Statement as stated
use Rattle.clickpull_c.proofs.live.handle.LiveHandle.get_mut.Code as code

pub get_mut_spec : {M : Type 1} → stated.statement M
unfolding tables_of
get_mut_spec 𝓤 𝓛 𝓜 𝓡 wired =
    let 𝓣 : Tables 𝓤 𝓛.H = tables_of 𝓤 𝓛.H 𝓜 (tables 𝓤 𝓛.H 𝓜 𝓡 𝓡.env) in
    entered 𝓤 𝓛.H (triple_of 𝓛 F.signature (F.spec 𝓛 𝓜.mem 𝓡.returns)) 𝓣.C 𝓣.Λ #self code.function (code.unfolded 𝓤 𝓛.H 𝓜 𝓡 wired)
    (Lends Value.the_row (lone Value.the_row.mir) value.the_row_laws Handle.the_row Handle.the_type.name Value.the_row.written.ty (lone Value.the_row.mir)
    (λ h. record { ptr = h.at; alloc = h.alloc; value = h.router }) with_live (λ d vs. refl) (λ d x vs. refl) 𝓛 𝓣)
