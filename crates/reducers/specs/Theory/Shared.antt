-- R-5: "Each operation has an identity that changes nothing when combined on either side, and grouping never matters; show that law for each
-- pair and triple, through one shared argument." The argument: a view acts on words; the identity leaves each word as it is; a join acts as its
-- two views one after the other, the earlier one first; two views that act alike are equal.
use Rattle.std.specs.Prelude.{◌≡◌, ℕ, ◌<◌}
use Rattle.std.proofs.Common.{sym, ap, ◌∙◌}
use Rattle.reducers.specs.Law.{Law}

pub record Action (A : Type 0) (IsWord : A → Type 0) (identity : A) (join : A → A → A) (act : A → ℕ → ℕ) : Type 0 where
  pub identity_word : IsWord identity
  pub join_word : (a b : A) → IsWord a → IsWord b → IsWord (join a b)
  pub act_word : (a : A) (x : ℕ) → IsWord a → x < 4294967296 → act a x < 4294967296
  pub act_identity : (x : ℕ) → x < 4294967296 → act identity x ≡ x
  pub act_join : (a b : A) (x : ℕ) → act (join a b) x ≡ act b (act a x)
  pub same : (a b : A) → IsWord a → IsWord b → ((x : ℕ) → x < 4294967296 → act a x ≡ act b x) → a ≡ b

pub law : {A : Type 0} {IsWord : A → Type 0} {identity : A} {join : A → A → A} {act : A → ℕ → ℕ} → Action A IsWord identity join act → Law A IsWord identity join
law {identity = identity} {join = join} {act = act} t = record {
  identity_word = t.identity_word;
  join_word = t.join_word;
  left = λ a p. t.same (join identity a) a (t.join_word identity a t.identity_word p) p (λ x b. t.act_join identity a x ∙ ap (act a) (t.act_identity x b));
  right = λ a p. t.same (join a identity) a (t.join_word a identity p t.identity_word) p
      (λ x b. t.act_join a identity x ∙ t.act_identity (act a x) (t.act_word a x p b));
  grouping = λ a b c p q r. t.same (join (join a b) c) (join a (join b c))
      (t.join_word (join a b) c (t.join_word a b p q) r)
      (t.join_word a (join b c) p (t.join_word b c q r))
      (λ x _. t.act_join (join a b) c x ∙ ap (act c) (t.act_join a b x) ∙ sym (t.act_join a (join b c) x ∙ t.act_join b c (act a x)));
}
