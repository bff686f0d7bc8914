-- Digits, byte by byte.
use Rattle.std.proofs.Common.{◌≡◌, ℕ, suc, ◌+◌, ◌-◌, ◌*◌, ◌<◌, Bool, true, false, cond, ◌&&◌, nat_le, List, length, get_or, drop, Some, None, Option, sym, ap, ◌∙◌, add-one, drop-cons}
use Rattle.script.specs.Text.{is_digit, decimal_from}

pub digits_more : (most n : ℕ) (w : List ℕ) (i : ℕ) (o : Option ℕ) → i < length w →
    o ≡ cond (is_digit (get_or w i 0) && nat_le (n * 10 + (get_or w i 0 - 48)) most) (Some (n * 10 + (get_or w i 0 - 48))) None →
    decimal_from most n (drop i w) ≡ (elim o [ Some x ↦ decimal_from most x (drop (i + 1) w) | None ↦ None ])
unfolding decimal_from
digits_more most n w i o h e =
    ap (decimal_from most n) (drop-cons w i 0 h) ∙ by (is_digit (get_or w i 0) && nat_le (n * 10 + (get_or w i 0 - 48)) most) o (n * 10 + (get_or w i 0 - 48)) e
  where
    by : (b : Bool) (o : Option ℕ) (x : ℕ) → o ≡ cond b (Some x) None → cond b (decimal_from most x (drop (suc i) w)) None ≡ (elim o [ Some x ↦ decimal_from most x (drop (i + 1) w) | None ↦ None ])
    by true o x e = ap (λ n. decimal_from most x (drop n w)) (sym (add-one i)) ∙ ap (λ (v : Option ℕ). (elim v [ Some x ↦ decimal_from most x (drop (i + 1) w) | None ↦ None ])) (sym e)
    by false o x e = ap (λ (v : Option ℕ). (elim v [ Some x ↦ decimal_from most x (drop (i + 1) w) | None ↦ None ])) (sym e)
