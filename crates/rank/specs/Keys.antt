-- How two keys can stand to each other.

-- exactly one of three facts holds
pub data ExactlyOne (A B C : Type 0) : Type 0 where
  the_first : A → ¬ B → ¬ C → ExactlyOne A B C
  the_second : ¬ A → B → ¬ C → ExactlyOne A B C
  the_third : ¬ A → ¬ B → C → ExactlyOne A B C

-- the same of the three the other way round
pub turned : {A B C : Type 0} → ExactlyOne A B C → ExactlyOne C B A
turned (the_first a b c) = the_third c b a
turned (the_second a b c) = the_second c b a
turned (the_third a b c) = the_first c b a
