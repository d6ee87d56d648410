pub mod CursorCalls
