use Rattle.size_making.specs.Makings.{making_of}
use Rattle.size_arena.specs.Trees.{dim_of}
use Rattle.size_making.proofs.MakingForms.{sized_var, sized_rigid, sized_array, sized_plain, sized_function}
use Rattle.size_making.proofs.making.+making.Goals as goal

pub of_type-returns-in-Var : goal.of_type-returns-in-Var
of_type-returns-in-Var t c = sized_var (making_of c.args.making) c.args.first c.args.ty.now c.in-Var.number c.hole.result c.in-Var.is c.hole.ensures

pub of_type-returns-in-Rigid : goal.of_type-returns-in-Rigid
of_type-returns-in-Rigid t c = sized_rigid (making_of c.args.making) c.args.first c.args.ty.now c.in-Made.height c.in-Made.head c.in-Made.parts c.in-Made.is c.in-Rigid.name c.in-Rigid.kind c.hole-in-Rigid.result c.in-Rigid.is c.hole-in-Rigid.ensures

pub of_type-returns-in_ok-elements-in-Array : goal.of_type-returns-in_ok-elements-in-Array
of_type-returns-in_ok-elements-in-Array t c =
    sized_array (making_of c.args.making) c.args.first c.args.ty.now c.in-Made.height c.in-Made.head c.in-Made.parts c.in-Made.is c.in_ok-next-in-Array.next (dim_of c.in_ok-size-in-Array.size) c.in_ok-elements-in-Array.elements c.array_of.result c.in-Array.is
    c.in_ok-next-in-Array.ensures c.in_ok-size-in-Array.ensures c.in_ok-elements-in-Array.ensures c.array_of.ensures

pub of_type-returns-in_ok-to-in-Fun : goal.of_type-returns-in_ok-to-in-Fun
of_type-returns-in_ok-to-in-Fun t c =
    sized_function (making_of c.args.making) c.args.first c.args.ty.now c.in-Made.height c.in-Made.head c.in-Made.parts c.in-Made.is c.index-parts-0.result c.index-parts-0-in-Fun.result c.index-parts-1.result c.in_ok-chosen-in-Fun.chosen c.in_ok-met-in-Fun.met
    c.in_ok-from-in-Fun.from c.in_ok-to-in-Fun.to c.function.result c.in-Fun.is c.if-parts-ne2.false c.in_ok-chosen-in-Fun.ensures c.in_ok-met-in-Fun.ensures c.in_ok-from-in-Fun.ensures
    c.in_ok-to-in-Fun.ensures c.function.ensures

pub of_type-returns-in_ok-made-in_default : goal.of_type-returns-in_ok-made-in_default
of_type-returns-in_ok-made-in_default t c =
    sized_plain (making_of c.args.making) c.args.first c.args.ty.now c.in-Made.height c.in-Made.head c.in-Made.parts c.in-Made.is c.in_ok-made-in_default.made c.built.result c.in_default.not-Rigid c.in_default.not-Array c.in_default.not-Fun c.in_ok-made-in_default.ensures c.built.ensures
