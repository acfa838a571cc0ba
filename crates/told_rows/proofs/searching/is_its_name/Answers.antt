use Rattle.size_arena.specs.Trees.{size_of}
use Rattle.told_rows.proofs.SearchForms.{const_unnamed, own_unnamed, unknown_unnamed, slot_unnamed, no_name, other_name, own_name}
use Rattle.told_rows.proofs.searching.is_its_name.Goals as goal

pub returns-then-name-wanted : goal.returns-then-name-wanted
returns-then-name-wanted c = λ Z w. other_name c.args.sizes.now Z w c.args.node (size_of c.args.tree.now) c.args.size c.in-Name.wanted c.in-Name.is c.in_ok-name-in-Name.field-0 c.in_ok-name-in-Name.ensures c.in-Some.name c.in-Some.is c.if-name-wanted.true

pub returns-else-name-wanted : goal.returns-else-name-wanted
returns-else-name-wanted c = λ Z w. own_name c.args.sizes.now Z w c.args.node (size_of c.args.tree.now) c.args.size c.in-Name.wanted c.in-Name.is c.in_ok-name-in-Name.field-0 c.in_ok-name-in-Name.ensures c.in-Some.name c.in-Some.is c.is_number.result c.if-name-wanted.false c.is_number.ensures

pub returns-in-None : goal.returns-in-None
returns-in-None c = λ Z w. no_name c.args.sizes.now Z w c.args.node (size_of c.args.tree.now) c.args.size c.in-Name.wanted c.in-Name.is c.in_ok-name-in-Name.field-0 c.in_ok-name-in-Name.ensures c.in-None.is

pub returns-in-Const : goal.returns-in-Const
returns-in-Const c = λ Z w. const_unnamed c.args.sizes.now Z w c.args.node (size_of c.args.tree.now) c.args.size _ c.in-Const.is

pub returns-in-Own : goal.returns-in-Own
returns-in-Own c = λ Z w. own_unnamed c.args.sizes.now Z w c.args.node (size_of c.args.tree.now) c.args.size _ _ c.in-Own.is

pub returns-in-Unknown : goal.returns-in-Unknown
returns-in-Unknown c = λ Z w. unknown_unnamed c.args.sizes.now Z w c.args.node (size_of c.args.tree.now) c.args.size _ _ c.in-Unknown.is

pub returns-in-Slot : goal.returns-in-Slot
returns-in-Slot c = λ Z w. slot_unnamed c.args.sizes.now Z w c.args.node (size_of c.args.tree.now) c.args.size _ c.in-Slot.is
