-- Wrapped records whose models are not of version 3: the model in each breaks the form rules that it broke before, so 54 turns the
-- same ones away, and the one that stood stands.
-- Assumes nothing.
use Prim.Native.Nat.{ℕ, suc, ◌+◌}
use native.Mathlib.Omega.{arith}
use mathlib.Core.Bool.{true}
use mathlib.Core.List.{List, [], ◌∷◌}
use mathlib.Core.Option.{Option}
use mathlib.Core.Path.{◌≡◌, refl, ap, ap₂, ◌∙◌}
use Rattle.schedule.specs.Rule.{Refusal, break, first_break}
use Rattle.schedule.specs.Records.{length_rule, version_rule}
use Rattle.schedule.specs.Answers.{Answer}
use Rattle.schedule.specs.Exchange.{wrapper_length, wrapped, flag_rule, wrapper_form, unbroken, wrapper_rule, record_rules, outranks}
use Rattle.schedule.specs.Exchange.{along, standing, handed_back, placed, both_of, pair_answer, pair_part, pair_bytes}
use Rattle.schedule.specs.Exchange.{records_of, offset_in, file_answer, file_bytes}
use Rattle.laws.proofs.FirstBreak.{break-same, append_same}
use Rattle.laws.proofs.WrappedLaws.{onwards}
use Rattle.demands.specs.FormerExchange
use Rattle.demands.specs.Widths.{NotOfVersion3, NoneOfVersion3, WrappedAsBefore}
use Rattle.demands.proofs.BreakAlike.{cons_same}
use Rattle.demands.proofs.FormerForm.{same-form}

-- 54 breaks as before: the same form rules stand behind the same three of the wrapper
module _ (w : List ℕ) (old : NotOfVersion3 (wrapped w)) where
  rule-same : break (wrapper_rule w) ≡ break (FormerExchange.wrapper_rule w)
  unfolding wrapper_form wrapper_rule FormerExchange.wrapper_form FormerExchange.wrapper_rule
  rule-same =
      break-same (wrapper_rule w) (FormerExchange.wrapper_rule w) refl refl refl (λ _ _ _ _.
      ap unbroken (append_same (length_rule 54 wrapper_length w ∷ version_rule 54 1 w ∷ flag_rule w ∷ []) _ _
      (same-form (wrapped w) old)))

  rules-same : (x : List ℕ) → first_break (record_rules x w) ≡ first_break (FormerExchange.record_rules x w)
  rules-same x = cons_same _ _ _ _ rule-same refl

along-same : (ws : List (List ℕ)) (k r : ℕ) (x : List ℕ) → NoneOfVersion3 ws → along k r x ws ≡ FormerExchange.along k r x ws
unfolding along FormerExchange.along
along-same [] k r x old = refl
along-same (w ∷ ws) k r x old =
    let others : NoneOfVersion3 ws = λ j l. old (suc j) (omega arith) in
    ap (λ (o : Option Refusal). onwards o (outranks w x) k (along (k + 1) k w ws) (along (k + 1) r x ws))
    (rules-same w (old 0 (omega arith)) x)
    ∙ ap₂ (λ (new left : Answer ℕ). onwards (first_break (FormerExchange.record_rules x w)) (outranks w x) k new left)
    (along-same ws (k + 1) k w others) (along-same ws (k + 1) r x others)

standing-same : (ws : List (List ℕ)) → NoneOfVersion3 ws → standing ws ≡ FormerExchange.standing ws
unfolding standing FormerExchange.standing
standing-same [] old = refl
standing-same (w ∷ ws) old =
    ap₂ (λ (o : Option Refusal) (then : Answer ℕ). onwards o true 0 then then)
    (cons_same _ _ [] [] (rule-same w (old 0 (omega arith))) refl)
    (along-same ws 1 0 w (λ j l. old (suc j) (omega arith)))

pub wrapped_as_before : WrappedAsBefore
unfolding pair_answer pair_part pair_bytes file_answer file_bytes FormerExchange.pair_answer FormerExchange.pair_part
    FormerExchange.pair_bytes FormerExchange.file_answer FormerExchange.file_bytes
wrapped_as_before = record {
  stands = standing-same;
  pair = λ x y old. standing-same (both_of x y) old;
  part_of_pair = λ x y old. ap (placed (λ _. 0) (both_of x y)) (standing-same (both_of x y) old);
  bytes_of_pair = λ x y old. ap (handed_back (both_of x y)) (standing-same (both_of x y) old);
  file = λ f old. ap (placed (offset_in (records_of f)) (records_of f)) (standing-same (records_of f) old);
  bytes_of_file = λ f old. ap (handed_back (records_of f)) (standing-same (records_of f) old);
}
