-- A program whose first refusal hangs on the order of a record's parts.
use Rattle.std.proofs.Common.{refl}
use Rattle.fut_types.specs.Shapes.{place, place_from}
use Rattle.fut_sizes.specs.Agreeing.{agree, all_agree, kept, all_kept, leaving, type_levels, all_type_levels, of_type, of_types}
use Rattle.fut_sizes.specs.Applications.{all_settled, parts_settled, data_met, functions_met, all_matched, applied}
use Rattle.fut_sizes.specs.Functions.{collected, all_collected, sizes_in, function_size, chosen_in, quantified, closed}
use Rattle.fut_sizes.specs.Levels.{levels_within, all_levels_within}
use Rattle.fut_sizes.specs.Matching.{filled, all_filled, read, all_read, inside, compared, all_compared, meet, all_meet}
use Rattle.fut_sizes.specs.Operations.{elements_agree, operation}
use Rattle.fut_sizes.specs.Primitives.{sized_type, prim_size}
use Rattle.fut_sizes.specs.Programs.{sizing}
use Rattle.fut_sizes.specs.Scopes.{type_of, type_in, instance, instances, used}
use Rattle.fut_sizes.specs.Sizing.{sized, all_sized, turns_sized, condition_sized, right_sized, inner_sized}
use Rattle.sized_types.specs.Sizes.{erased, all_erased, is_free, is_dim, levels, all_levels, replaced, all_replaced, has, some_has, takes, some_takes}
use Rattle.sizing_laws.specs.Claims.{OrderCounts}

pub order_counts : OrderCounts
unfolding place place_from agree all_agree kept all_kept leaving type_levels all_type_levels of_type of_types all_settled parts_settled data_met functions_met all_matched applied collected all_collected sizes_in function_size chosen_in quantified closed levels_within all_levels_within filled all_filled read all_read inside compared all_compared meet all_meet elements_agree operation sized_type prim_size sizing type_of type_in instance instances used sized all_sized turns_sized condition_sized right_sized inner_sized erased all_erased is_free is_dim levels all_levels replaced all_replaced has some_has takes some_takes
order_counts = (refl, refl)
