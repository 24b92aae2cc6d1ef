use Rattle.std.proofs.Common.{◌≡◌, ◌+◌, ◌%◌, sum, subst, refl, arith, rules}
use Rattle.std.proofs.lemmas.List.Sums.{sum_by_push}
use Rattle.std.proofs.lemmas.Fn.{fold_over, slice_gives, fronts}
use Rattle.request.proofs.sums.byte_sum.Goals as goal

pub returns : goal.returns
returns c =
    subst (λ l. c.fold.result ≡ sum l % 256) c.iter.ensures.rest
    (fold_over fronts (λ y. y.now) _ (λ ys n. n ≡ sum ys % 256) _ (λ ys a x b f' j k. let more = sum_by_push (λ v. v) ys x.now in let says : b ≡ (a + x.now) % 256 = search rules in (omega (arith, more, says, j), search rules))
    _ _ _ _ (slice_gives c.iter.result) refl c.fold.ensures.ran)
