-- Laws of stores and views.
use Rattle.std.proofs.Common.{◌≡◌, ◌≢◌, ℕ, zero, suc, ◌<◌, ◌^◌, List, [], ◌∷◌, length, map, get_or, arith, refl, sym, ap, ◌∙◌, subst}
use Rattle.std.specs.Prelude.{unsigned_abs, slice_index, pos}
use Rattle.block_store.specs.declared.view.BlockId.{BlockId}
use Rattle.block_store.specs.declared.view.View.{View}
use Rattle.block_store.specs.Blocks.{Block, Blocks, In, Free, block_at, placed, with_block, words_at, words_in}
use Rattle.block_store.specs.Indices.{IsIndex, Below, cells_from}
use Rattle.block_store.specs.Laws.{BlockLaw, BlocksAreApart, ViewLaw, ViewsArePlaced, ViewsOfViews}
use Rattle.block_store.specs.Views.{IsPlaced, IsWithin, Shows, cells, place, word_of}
use Rattle.block_store.proofs.Valuing.{placed_at}

placed_other : (bs : List Block) (b c : ℕ) (x : Block) → c ≢ b → block_at (placed bs b x) c ≡ block_at bs c
placed_other [] zero zero x ne = absurd (ne refl)
placed_other [] zero (suc c) x ne = refl
placed_other [] (suc b) zero x ne = refl
placed_other [] (suc b) (suc c) x ne = placed_other [] b c x (λ e. ne (ap suc e))
placed_other (y ∷ ys) zero zero x ne = absurd (ne refl)
placed_other (y ∷ ys) zero (suc c) x ne = refl
placed_other (y ∷ ys) (suc b) zero x ne = refl
placed_other (y ∷ ys) (suc b) (suc c) x ne = placed_other ys b c x (λ e. ne (ap suc e))

pub views_show : ViewsOfViews
views_show s v w other within shows =
    let here : length (words_at s v.block) ≡ length (words_at s w.block) = ap (λ z. length (words_at s z)) (sym shows.block) in
    record {
      within = record {
        levels = shows.levels;
        places = λ at h. subst (λ z. Below (place w at) z) here (subst (λ z. Below z (length (words_at s v.block))) (sym (shows.place at h)) (within.places (other at) (shows.index at h)));
        short = subst (λ z. z < 2 ^ 63) here within.short;
      };
      word = λ at h. ap (λ z. slice_index (words_at s z) (unsigned_abs (place w at))) shows.block ∙ ap (λ z. slice_index (words_at s v.block) (unsigned_abs z)) (shows.place at h);
    }

pub views_placed : ViewsArePlaced
views_placed s v within = record {
  levels = within.levels;
  places = λ at h. let b = within.places at h in record { number = b.number; is = b.is; below = omega (arith, b.below, within.short) };
}

pub blocks_apart : BlocksAreApart
blocks_apart s id block = record {
  here = placed_at s.blocks id.0 block;
  others = λ b ne. placed_other s.blocks id.0 b block ne;
  read = λ v ne. ap (λ z. cells_from (words_in z) (pos v.offset) v.strides v.shape) (placed_other s.blocks id.0 v.block.0 block ne);
}
