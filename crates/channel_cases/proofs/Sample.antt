-- The sample run, by computing.
use Rattle.std.proofs.Common.{refl, inr, lit<, lit≤}
use Rattle.wire.specs.Bytes.{first}
use Rattle.wire.specs.Points.{points}
use Rattle.channel_cases.specs.Sample.{SampleHolds}

pub sample_holds : SampleHolds
unfolding first points
sample_holds = record {
  history = refl;
  earned = (
    λ x. x,
    (lit< tt, refl),
    (
      (λ x. x),
      lit≤ tt,
      (
        (λ x. x),
        (lit≤ tt, lit< tt),
        (
          (λ x. x),
          (lit< tt, refl),
          (
            (λ x. x),
            tt,
            (
              (λ x. x),
              tt,
              ((λ x. x), (lit< tt, refl), ((λ x. x), tt, ((λ x. x), (lit< tt, refl), (tt, lit≤ tt)))),
            ),
          ),
        ),
      ),
    ),
  );
  true_to = (refl, (inr refl, (tt, (refl, (tt, (tt, (refl, (tt, (refl, tt)))))))));
  told = refl;
  whole = refl;
}
