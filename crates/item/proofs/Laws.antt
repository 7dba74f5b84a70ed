-- What the bound `Item` brings of its laws, as one fact.
use seplogic.Ra.Ura.{Ura}
use mir.Syntax.{Dict}
use prog.Model.{Model}
use types.Logic.{Logic}
use contract.Running.{Running}
use denote.RattleType.{RattleType}
use Rattle.std.specs.declared.clone.Clone as clone
use Rattle.item.specs.declared.item.Item.{Ghosts}
use Rattle.item.specs.contracts.item.Item.TheBound.{Met}
use Rattle.item.specs.Items.{Lawful}

pub lawful : {M : Type 1} {𝓤 : Ura M} {𝓛 : Logic 𝓤} {𝓜 : Model 𝓤 𝓛.H} {𝓡 : Running 𝓤 𝓛.H 𝓜} {I : RattleType} {t : Ghosts I.Denot} {d e : Dict} {k : clone.Ghosts I.Denot} →
    Met 𝓛 𝓜 𝓡 𝓡.env I t d k e → Lawful t
lawful met = record { coded = met.coded; small = met.small; there = met.there; back = met.back }
