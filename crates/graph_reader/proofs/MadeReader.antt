-- What the walks of `graph_reader::cursor` share: the types of a `Reader`, an `Edition` and a `Command` as they have them, and the call of `new`, which makes a `Reader`.
--     B            the struct's type, over a signature's lifetimes.        αᵉ      its lifetime in a local of a body, where MIR erases the name
--     command_val, edition_val, lent_val, made      the machine values of a command, of an edition and of a slice; the struct of a slice, a place and an edition
--     is_edition, typed                  an edition has its machine value, and the struct its type, whichever the edition is
--     New, to_new, goes_new, new_said   the contract of `new`; what it is passed, that the token and what the slice owns give all that it asks, and what it says of its result
-- `goes_new` takes `Logic`. The rest assumes nothing.
use mathlib.Core.Path.{◌≡◌, refl}
use Prim.Native.Nat.{ℕ, ◌<◌, ◌^◌}
use mathlib.Core.List.{List, [], ◌∷◌}
use lib.Dec.{T as Holds}
use lib.ListN.{length}
use seplogic.Ra.Ura.{Ura}
use mir.Syntax.{named, erased, w64}
use mir.Val.{Val, has_ty, vint, vstruct, of_list}
use base.Logic.{SProp, ent, snd∗, ex_e}
use base.Fml.{Lft, Share, Fml, ftrue, flft}
use prog.Memory.{Memory}
use prog.Routine.{Routine}
use types.Logic.{Logic, sem}
use contract.Lifetimes.{Lfts}
use contract.Monad.{Fun, fact}
use types.Kit.{‵, ◌⊛◌, ⋆, ◌$◌, ◌∵◌, !, qed, move, join, fjoin, frame, done}
use denote.RattleType.{RattleType}
use denote.Laws.{Is}
use denote.Plain.{uint_Makes}
use denote.Builtin.{u8, usize}
use denote.Ref.{Bor, NamedLft}
use denote.Signature.{named_lft}
use denote.Slice.{slice_val, ShrSlice}
use denote.Steps.{owned, nothing}
use denote.Enum.Laws as EL
use denote.Triple.Statement.{Contract}
use denote.Triple.Spec.{triple_of}
use denote.Triple.Clauses.{ensured, lasts}
use Rattle.graph_reader.specs.declared.cursor.Reader.{Reader}
use Rattle.graph_reader.specs.declared.Edition.{Edition}
use Rattle.graph_reader.specs.declared.Edition.TheVariants.{One, Two}
use Rattle.graph_reader.specs.declared.commands.Command.{Command}
use Rattle.graph_reader.specs.contracts.cursor.Reader as T
use Rattle.graph_reader.proofs.cursor.Reader.TheLaws as T'
use Rattle.graph_reader.specs.contracts.Edition as E
use Rattle.graph_reader.proofs.Edition.TheLaws as E'
use Rattle.graph_reader.specs.contracts.commands.Command as K
use Rattle.graph_reader.proofs.commands.Command.TheLaws as K'
use Rattle.graph_reader.specs.contracts.cursor.Reader.new as new

abbrev pub B : Lfts 1 → RattleType
B κs = T.the_row (named_lft 1 0 tt κs)

abbrev pub αᵉ : Lft → NamedLft
αᵉ κ = record { mir = erased; lft = κ }

abbrev pub command_val : Command → Val
command_val c = EL.val K.the_type K'.the_laws c

abbrev pub edition_val : Edition → Val
edition_val e = EL.val E.the_type E'.the_laws e

-- every edition has its machine value
pub is_edition : (e : Edition) → Is E.the_row e (edition_val e ∷ [])
is_edition One = ([], (refl, (tt, (refl, tt))))
is_edition Two = ([], (refl, (tt, (refl, tt))))

abbrev pub lent_val : Bor (List ℕ) → Val
lent_val s = slice_val s.ref_ptr (length s.now)

abbrev pub made : Bor (List ℕ) → ℕ → Edition → Reader
made s n e = record { bytes = s; at = n; edition = e }

abbrev pub reader_val : Reader → Val
reader_val d = vstruct (of_list (lent_val d.bytes ∷ vint w64 d.at ∷ edition_val d.edition ∷ []))

-- whichever the edition is, the struct has its type
pub typed : (s : Bor (List ℕ)) (n : ℕ) (e : Edition) → Holds (has_ty (T'.mir (named 0)) (reader_val (made s n e)))
typed s n One = tt
typed s n Two = tt

module _ {M : Type 1} {𝓤 : Ura M} (𝓛 : Logic 𝓤) (mem : Memory → SProp 𝓤) (run : Routine → Fun 𝓤) where
  abbrev pub New : Contract 𝓤
  New = triple_of 𝓛 new.signature (new.spec 𝓛 mem run)

  module _ (κ : Lft) (q : Share) (s : Bor (List ℕ)) (n : ℕ) (e : Edition) where
    abbrev Own : Fml
    Own = (ShrSlice (named 0) κ u8).own_val s (lent_val s ∷ [])

    abbrev pub to_new : New.Ghost
    to_new = (((κ, tt), (q, tt), tt, (s, (n, (e, tt))), (lent_val s ∷ [], (vint w64 n ∷ [], (edition_val e ∷ [], tt)))), tt)

    pub goes_new : n < 2 ^ 64 → ent 𝓤 (⋆ 𝓛 ((‵ (flft κ q) ⊛ ‵ ftrue) ∷ ‵ Own ∷ [])) (New.pre to_new)
    goes_new ok =
        qed 𝓛 ((‵ (flft κ q) ⊛ ‵ ftrue) ∷ ‵ Own ∷ []) ∵
        nothing ! $ owned ! E.the_row (Is E.the_row) (EL.makes E.the_type E'.the_plain 𝓛) e _ (is_edition e) $ fjoin ! $ owned ! usize (Is usize) (uint_Makes 𝓛 w64) n _ (refl, ok) $ fjoin ! $ move ! (2 ∷ 0 ∷ []) $ fjoin ! $ move ! (1 ∷ 0 ∷ []) $ join ! $ frame ! $ done !

    pub new_said : (r : Reader) → ent 𝓤 (ensured 𝓛 new.ended (new.clauses 𝓛 mem run) (κ, tt) (s, (n, (e, tt))) tt r) (fact 𝓤 ((r.bytes ≡ s) × (r.at ≡ n) × (r.edition ≡ e)))
    new_said r = ex_e 𝓤 _ (λ ws. snd∗ 𝓤 (sem 𝓛 (lasts new.ended (κ, tt) (s, (n, (e, tt))) ws)) (fact 𝓤 ((r.bytes ≡ s) × (r.at ≡ n) × (r.edition ≡ e))))
