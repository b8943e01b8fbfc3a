-- What the promise of the trace comes to, for every call that keeps it: it leaves no choice; words after the first 2×n×T make no difference; the trace of a
-- log is over the log's own contacts, and two logs that mean the same have the same trace; a later start never reaches a badge sooner.
use mathlib.Core.Path.{◌≡◌, refl, sym, ap, ◌∙◌, subst}
use mathlib.Core.Bool.{true}
use mathlib.Core.List.{List, ◌++◌}
use mathlib.Core.Logic.{◌↔◌, by_cases}
use Prim.Native.Nat.{ℕ, ◌+◌, ◌≤◌, ◌<◌}
use native.Mathlib.Decide.{dec_lt}
use native.Mathlib.Omega.{arith}
use lib.ListN.{length, drop}
use Rattle.sets.specs.Sets.{In}
use Rattle.sets.proofs.Sets.{lt-of-members}
use Rattle.records.specs.declared.record.Record.{Record}
use Rattle.records.specs.Limits.{within_limits, words_for}
use Rattle.records.specs.Outcomes.{Outcome, refused, success}
use Rattle.records.specs.Logs.{IsLog, Met}
use Rattle.records.proofs.Theorems.{met-in, met_of, met-below, met-apart}
use Rattle.records.proofs.Meaning.{contact-swap}
use Rattle.days.specs.Days.{LentDay}
use Rattle.days.specs.Calls.{Read, check_of}
use Rattle.days.proofs.Days.{neighbours-append}
use Rattle.days.proofs.Checks.{check-day, check-passed, check-rest}
use Rattle.logs.specs.Buffers.{Delivered}
use Rattle.chains.specs.Chains.{Contact, Chain}
use Rattle.chains.specs.Traces.{tick_in, IsTrace}
use Rattle.chains.specs.Judging.{StartOfDay}
use Rattle.chains.proofs.Chains.{chain-map}
use Rattle.chains.proofs.TraceUnique.{trace-unique}
use Rattle.chains.proofs.TraceLaws.{trace-map, later-start}
use Rattle.trace.specs.Calls.{trace_of}
use Rattle.trace.specs.Tracing.{Traces}
use Rattle.trace.proofs.TraceCall.{traces}
use Rattle.promises.specs.Reading.{HoldsDay, Reads}
use Rattle.promises.specs.Tidying.{SameMeaning}
use Rattle.promises.specs.Tracing.{TracesLogs}

-- what a call is judged by, whatever was handed over and lent
data Judged (n T : ℕ) (ws : List ℕ) (index s : ℕ) (buffer : List ℕ) : Type 0 where
  by_check : (number offset : ℕ) → check_of n T ws ≡ refused number offset → Judged n T ws index s buffer
  by_22 : LentDay n T ws → ((index < n) × (s < T) → ⊥) → Judged n T ws index s buffer
  by_9 : StartOfDay n T ws index s → length buffer < n + n → Judged n T ws index s buffer
  passed : StartOfDay n T ws index s → n + n ≤ length buffer → Judged n T ws index s buffer

judged : (n T : ℕ) (ws : List ℕ) (index s : ℕ) (buffer : List ℕ) → Judged n T ws index s buffer
judged n T ws index s buffer = go (check_of n T ws) refl
  where
    started : LentDay n T ws → Judged n T ws index s buffer
    started d =
        by_cases (dec_lt index n)
        (λ h. by_cases (dec_lt s T)
        (λ k. let a : StartOfDay n T ws index s = record { lent = d; badge = h; tick = k } in by_cases (dec_lt (length buffer) (n + n)) (λ l. by_9 a l) (λ l. passed a (omega arith)))
        (λ k. by_22 d (λ p. k p.1)))
        (λ h. by_22 d (λ p. h p.0))

    go : (o : Outcome (Unit {0})) → check_of n T ws ≡ o → Judged n T ws index s buffer
    go (refused number offset) e = by_check number offset e
    go (success x) e = started (check-passed n T ws e)

-- Words that the check judges alike, and that have the same contacts, are answered alike by two calls that keep the promise, whatever else was handed over
-- and lent.
module _ {call other : ℕ → ℕ → List ℕ → ℕ → ℕ → List ℕ → Delivered} {bytes bytes' : ℕ → ℕ → List ℕ → ℕ → ℕ → List ℕ} (p : Traces call bytes) (q : Traces other bytes') where
  pub same-contacts : {n T : ℕ} {xs ys : List ℕ} → check_of n T xs ≡ check_of n T ys
      → ((t u v : ℕ) → Contact n T xs t u v → Contact n T ys t u v) → ((t u v : ℕ) → Contact n T ys t u v → Contact n T xs t u v)
      → (index s : ℕ) (buffer : List ℕ) → call n T xs index s buffer ≡ other n T ys index s buffer
  same-contacts {n} {T} {xs} {ys} same there back index s buffer = go (judged n T xs index s buffer)
    where
      moved : LentDay n T xs → LentDay n T ys
      moved d = check-passed n T ys (sym same ∙ check-day n T xs d.limits d.enough d.day)

      started : StartOfDay n T xs index s → StartOfDay n T ys index s
      started d = record { lent = moved d.lent; badge = d.badge; tick = d.tick }

      same_bytes : StartOfDay n T xs index s → bytes n T xs index s ≡ bytes' n T ys index s
      same_bytes d = trace-unique n index s (λ t u v c. c.one) (trace-map there back (p.stated n T xs index s d)) (q.stated n T ys index s (started d))

      go : Judged n T xs index s buffer → call n T xs index s buffer ≡ other n T ys index s buffer
      go (by_check number offset e) = p.checks n T xs index s buffer number offset e ∙ sym (q.checks n T ys index s buffer number offset (sym same ∙ e))
      go (by_22 d f) = p.judges n T xs index s buffer d f ∙ sym (q.judges n T ys index s buffer (moved d) f)
      go (by_9 d h) = p.measures n T xs index s buffer d h ∙ sym (q.measures n T ys index s buffer (started d) h)
      go (passed d h) =
          p.succeeds n T xs index s buffer d h ∙ ap (λ (x : List ℕ). record { answer = success (n + n); buffer = x ++ drop (n + n) buffer }) (same_bytes d) ∙ sym (q.succeeds n T ys index s buffer (started d) h)

-- two lent days are judged alike
lent_same : {n T : ℕ} {xs ys : List ℕ} → LentDay n T xs → LentDay n T ys → check_of n T xs ≡ check_of n T ys
lent_same x y = check-day _ _ _ x.limits x.enough x.day ∙ sym (check-day _ _ _ y.limits y.enough y.day)

-- words that differ after the first 2×n×T alone have the same contacts
rest-contact : (n T : ℕ) (ws xs ys : List ℕ) → length ws ≡ words_for n T → (t u v : ℕ) → Contact n T (ws ++ xs) t u v → Contact n T (ws ++ ys) t u v
rest-contact n T ws xs ys l t u v c = record {
  tick = c.tick;
  one = c.one;
  other = c.other;
  meet = subst (λ (x : ℕ). In x v) (neighbours-append n T ws xs t u l c.tick c.one ∙ sym (neighbours-append n T ws ys t u l c.tick c.one)) c.meet;
}

-- words that hold a day of contacts have just these contacts, and so just the chains over these
module _ {n T : ℕ} {Met : ℕ → ℕ → ℕ → Type 0} {lent ws : List ℕ} (h : HoldsDay n T Met lent ws) (below : (t u v : ℕ) → Met t u v → (t < T) × (u < n) × (v < n)) where
  pub contact-met : (t u v : ℕ) → Contact n T ws t u v → Met t u v
  contact-met t u v c = (h.marks t u v c.tick c.one).0 c.meet

  pub met-contact : (t u v : ℕ) → Met t u v → Contact n T ws t u v
  met-contact t u v m = let b = below t u v m in record { tick = b.0; one = b.1; other = b.2; meet = (h.marks t u v b.0 b.1).1 m }

  pub held-chains : (index s u t : ℕ) → Chain (Contact n T ws) index s u t ↔ Chain Met index s u t
  held-chains index s u t = (chain-map contact-met, chain-map met-contact)

  held-lent : within_limits n T ≡ true → words_for n T ≤ length lent → ((t u : ℕ) → Met t u u → ⊥) → ((t u v : ℕ) → Met t u v → Met t v u) → LentDay n T ws
  held-lent limits enough apart swap = record {
    limits = limits;
    enough = omega (arith, h.long);
    day = record {
      tick = λ t k. record {
        irreflexive = λ u l i. apart t u ((h.marks t u u k l).0 i);
        within = λ u l. lt-of-members n _ (λ v i. (below t u v ((h.marks t u v k l).0 i)).2);
        symmetric = λ u v l m i. (h.marks t v u k m).1 (swap t u v ((h.marks t u v k l).0 i));
      };
    };
  }

within : {log : List ℕ} {n T : ℕ} {cts : List Record} → IsLog log n T cts → (t u v : ℕ) → Met cts t u v → (t < T) × (u < n) × (v < n)
within {log} {n} {T} {cts} l = met-below n T cts l.valid

-- Of a log: the words that reading leaves.
module _ {read : List ℕ → List ℕ → Read} (reads : Reads read) {log lent : List ℕ} {n T : ℕ} {cts : List Record} (l : IsLog log n T cts) (enough : words_for n T ≤ length lent) where
  held : HoldsDay n T (Met cts) lent (read log lent).words
  held = (reads log lent n T cts l enough).day

  -- Chains over their contacts are chains over the log's own.
  pub log-chains : (index s u t : ℕ) → Chain (Contact n T (read log lent).words) index s u t ↔ Chain (Met cts) index s u t
  log-chains = held-chains held (within l)

  pub log-lent : LentDay n T (read log lent).words
  log-lent = held-lent held (within l) l.limits enough
      (λ t u m. met-apart n T cts l.valid t u (met-in n T cts t u u m))
      (λ t u v m. met_of n T cts t v u (contact-swap _ t u v (met-in n T cts t u v m)))

  pub log-trace : {call : ℕ → ℕ → List ℕ → ℕ → ℕ → List ℕ → Delivered} {bytes : ℕ → ℕ → List ℕ → ℕ → ℕ → List ℕ} → Traces call bytes → (index s : ℕ) → index < n → s < T
      → IsTrace (Met cts) n index s (bytes n T (read log lent).words index s)
  log-trace p index s i k = trace-map (contact-met held (within l)) (met-contact held (within l)) (p.stated n T _ index s (record { lent = log-lent; badge = i; tick = k }))

module _ {read : List ℕ → List ℕ → Read} (reads : Reads read) {call : ℕ → ℕ → List ℕ → ℕ → ℕ → List ℕ → Delivered} {bytes : ℕ → ℕ → List ℕ → ℕ → ℕ → List ℕ} (p : Traces call bytes) where
  -- The trace of a log is the trace over its own contacts,
  pub traces-logs : TracesLogs read bytes
  traces-logs log lent n T cts index s l h i k = log-trace reads l h p index s i k

  -- and two logs that mean the same have the same trace, whatever words and buffer are lent, and whatever index and start tick are handed over.
  pub same-meaning : {log log' : List ℕ} {n T n' T' : ℕ} {cts cts' : List Record} (lent lent' : List ℕ) → IsLog log n T cts → IsLog log' n' T' cts' → SameMeaning n T cts n' T' cts'
      → words_for n T ≤ length lent → words_for n T ≤ length lent' → (index s : ℕ) (buffer : List ℕ)
      → call n T (read log lent).words index s buffer ≡ call n' T' (read log' lent').words index s buffer
  same-meaning {log} {log'} {n} {T} {n'} {T'} {cts} {cts'} lent lent' l l' m h h' index s buffer =
      rw (← m.badges, ← m.ticks) (same-contacts p p (lent_same (log-lent reads l h) (log-lent reads k h')) there back index s buffer)
    where
      k : IsLog log' n T cts'
      k = subst (λ (N : ℕ). IsLog log' N T cts') (sym m.badges) (subst (λ (S : ℕ). IsLog log' n' S cts') (sym m.ticks) l')

      there : (t u v : ℕ) → Contact n T (read log lent).words t u v → Contact n T (read log' lent').words t u v
      there t u v c = met-contact (held reads k h') (within k) t u v ((m.contacts t u v).0 (contact-met (held reads l h) (within l) t u v c))

      back : (t u v : ℕ) → Contact n T (read log' lent').words t u v → Contact n T (read log lent).words t u v
      back t u v c = met-contact (held reads l h) (within l) t u v ((m.contacts t u v).1 (contact-met (held reads k h') (within k) t u v c))

module _ {call : ℕ → ℕ → List ℕ → ℕ → ℕ → List ℕ → Delivered} {bytes : ℕ → ℕ → List ℕ → ℕ → ℕ → List ℕ} (p : Traces call bytes) where
  -- The promise leaves no choice, for any input.
  pub no-choice : (n T : ℕ) (ws : List ℕ) (index s : ℕ) (buffer : List ℕ) → call n T ws index s buffer ≡ trace_of n T ws index s buffer
  no-choice n T ws = same-contacts p traces refl (λ t u v c. c) (λ t u v c. c)

  -- Words after the first 2×n×T make no difference.
  pub trace-rest : (n T : ℕ) (ws xs ys : List ℕ) → length ws ≡ words_for n T → (index s : ℕ) (buffer : List ℕ) → call n T (ws ++ xs) index s buffer ≡ call n T (ws ++ ys) index s buffer
  trace-rest n T ws xs ys l = same-contacts p p (check-rest n T ws xs ys l) (rest-contact n T ws xs ys l) (rest-contact n T ws ys xs l)

  -- A later start never reaches a badge sooner: its tick, which is 255 where it is never reached, is no smaller.
  pub never-sooner : {n T : ℕ} {ws : List ℕ} {index s later : ℕ} → StartOfDay n T ws index s → s ≤ later → later < T → (u : ℕ) → u < n
      → tick_in (bytes n T ws index s) u ≤ tick_in (bytes n T ws index later) u
  never-sooner {n} {T} {ws} {index} {s} {later} d h k = later-start h (p.stated n T ws index s d) (p.stated n T ws index later (record { lent = d.lent; badge = d.badge; tick = k }))
