-- What a call has written, by what a call that it makes has.
use Rattle.std.proofs.Common.{◌≡◌, ◌≢◌, ℕ, List, Option, Some, None, Result, Ok, Err}
use Rattle.std.specs.Io.KnownBytes.{Appends}
use Rattle.std.proofs.KnownBytes.{Keeps-refl}
use Rattle.clk_packet.specs.declared.fault.Fault.{Fault}
use Rattle.clk_packet.specs.declared.fault.Fault.TheVariants.{Write}
use Rattle.clk_packet.specs.Bytes.{AppendsFront, OfBytes, Wrote}
use Rattle.clk_packet.specs.Written.{WroteWhat}

-- what holds of bytes may be weakened
pub of-weaker : (known : Option (List ℕ)) (P Q : List ℕ → Type 0) → ((bytes : List ℕ) → P bytes → Q bytes) → OfBytes known P → OfBytes known Q
of-weaker None P Q weaker h = (h.0, weaker h.0 h.1)
of-weaker (Some bytes) P Q weaker h = weaker bytes h

-- a text was written whole
pub wrote-whole : {T : Type 0} (Means : List ℕ → Type 0) (x : T) (old new : Option (List ℕ)) (text : List ℕ) → Means text → Appends old new text → WroteWhat Means (Ok x) old new
wrote-whole Means x old new text means appends = record { whole = (text, means, appends); front = λ failed. absurd (cc); nothing = tt }

-- a front of a text was written, where the sink failed
pub wrote-front : {T : Type 0} (Means : List ℕ → Type 0) (fault : Fault) (old new : Option (List ℕ)) (text : List ℕ) → fault ≡ Write → Means text → AppendsFront old new text → WroteWhat {T = T} Means (Err fault) old new
wrote-front Means fault old new text is means front = record { whole = tt; front = λ failed. (text, means, front); nothing = λ other. absurd (other is) }

-- a text was written as far as its sink took it
pub wrote-so : (Means : List ℕ → Type 0) (result : Result (Unit {0}) Fault) (old new : Option (List ℕ)) (before after : ℕ) (text : List ℕ) → Means text → Wrote old new before after result text → WroteWhat Means result old new
wrote-so Means (Ok x) old new before after text means w = wrote-whole Means x old new text means w.whole
wrote-so Means (Err fault) old new before after text means w = wrote-front Means fault old new text w.fault means w.front

-- nothing was written, at another fault
pub wrote-nothing : {T : Type 0} (Means : List ℕ → Type 0) (fault : Fault) (old : Option (List ℕ)) → fault ≢ Write → WroteWhat {T = T} Means (Err fault) old old
wrote-nothing Means fault old other = record { whole = tt; front = λ failed. absurd (other (cc)); nothing = λ _. Keeps-refl old }

-- a call that succeeds after one that did, where each text of that one's meaning is one of its own
pub wrote-ended : {T U : Type 0} (P Q : List ℕ → Type 0) (x : T) (y : U) (old new : Option (List ℕ)) → ((text : List ℕ) → P text → Q text) → WroteWhat P (Ok x) old new → WroteWhat Q (Ok y) old new
wrote-ended P Q x y old new means w = wrote-whole Q y old new w.whole.0 (means w.whole.0 w.whole.1) w.whole.2

-- one that fails as it did
pub wrote-failed : {T U : Type 0} (P Q : List ℕ → Type 0) (fault : Fault) (old new : Option (List ℕ)) → ((text : List ℕ) → P text → Q text) → WroteWhat {T = T} P (Err fault) old new → WroteWhat {T = U} Q (Err fault) old new
wrote-failed P Q fault old new means w =
    record {
      whole = tt;
      front = λ failed. let front = w.front (cc) in (front.0, means front.0 front.1, front.2);
      nothing = w.nothing;
    }

-- and one that answers what it did
pub wrote-last : {T : Type 0} (P Q : List ℕ → Type 0) (result : Result T Fault) (old new : Option (List ℕ)) → ((text : List ℕ) → P text → Q text) → WroteWhat P result old new → WroteWhat Q result old new
wrote-last P Q (Ok x) old new means w = wrote-ended P Q x x old new means w
wrote-last P Q (Err fault) old new means w = wrote-failed P Q fault old new means w
