pub mod Replay
pub mod Room
pub mod Buffer
