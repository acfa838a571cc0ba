use Rattle.std.proofs.Common.{arith}
use Rattle.alias_values.specs.Trees.{stars_of}
use Rattle.alias_types.proofs.MakeForms.{spread_fun_tree}
use Rattle.alias_types.proofs.making.+spread.Goals as goal

pub spread-returns-in_ok-made-in-Fun-2 : goal.spread-returns-in_ok-made-in-Fun-2
spread-returns-in_ok-made-in-Fun-2 t c =
    spread_fun_tree c.args.starred c.args.ty.now c.in-Made.head c.in-Made.types c.index-types-0.result c.index-types-1.result (stars_of c.in_ok-from-in-Fun.from.now) (stars_of c.in_ok-to-in-Fun.to.now) (stars_of c.in_ok-made-in-Fun-2.made.now) c.in-Made.is c.in-Fun.is
    c.in_ok-from-in-Fun.ensures c.in_ok-to-in-Fun.ensures c.in_ok-made-in-Fun-2.ensures (omega (arith, c.if-types-ne2.false))
